use mathlib.Core.Path.{◌∙◌}
use Prim.Native.Nat.{ℕ}
use lib.Bits.{bit_or}
use Rattle.std.proofs.Common.{rules, tests}
use Rattle.std.proofs.lemmas.Iterator.{YieldsList-from_slice}
use Rattle.std.proofs.lemmas.Iterator.Search.{all_from_yields_List}
use Rattle.base.specs.Tests.{any}
use Rattle.base.specs.Sets.{has, contains}
use Rattle.base.proofs.Tests.{all_cong}
use Rattle.graph.specs.Memory.{list_of}
use Rattle.graph.proofs.Memory.{some_in_union}
use Rattle.graph.proofs.Chains.{all_chain}
use Rattle.graph.proofs.Graph.joins.Goals as goal

pub returns : goal.returns
returns c =
    let a = c.args in let g = a.self.now in
    let k = list_of g.counts g.masks a.k in let m = list_of g.counts g.masks a.m in
    let test = λ (t : ℕ). any (contains g.acceptors (has (bit_or a.s t))) m in
    all_from_yields_List test _ _ _ c.all.ensures.ran (YieldsList-from_slice k (cc)) (λ x b q w. search (rules, tests))
    ∙ all_chain test k ∙ all_cong _ _ k (λ t w. some_in_union g.acceptors a.s t m)
