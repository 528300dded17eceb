use mathlib.Core.Path.{◌∙◌}
use Rattle.std.proofs.Common.{tests}
use Rattle.std.proofs.lemmas.Iterator.{YieldsList-from_slice}
use Rattle.std.proofs.lemmas.Iterator.Search.{all_from_yields_List}
use Rattle.graphfile.specs.Writer.{few_masks}
use Rattle.graph.proofs.Chains.{all_chain}
use borrow.Author.Rules.{rules}
use Rattle.graphfile.proofs.writer.counts_fit.Goals as goal

pub returns : goal.returns
returns c =
    let l = c.args.counts.now in
    all_from_yields_List few_masks _ _ _ c.all.ensures.ran (YieldsList-from_slice l cc) (λ x b q k. search (rules, tests)) ∙ all_chain few_masks l
