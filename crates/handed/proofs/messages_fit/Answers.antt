use mathlib.Core.Path.{ap, ◌∙◌}
use Prim.Native.Nat.{ℕ}
use native.Mathlib.Omega.{arith}
use Rattle.std.proofs.Common.{rules, tests}
use Rattle.std.proofs.lemmas.Iterator.{YieldsList-from_range}
use Rattle.std.proofs.lemmas.Iterator.Search.{all_from_yields_List}
use Rattle.base.specs.Tests.{all, below}
use Rattle.graph.proofs.Chains.{all_range}
use Rattle.round.specs.Handed.{message_fits}
use Rattle.roundbytes.specs.Layout.{round_in}
use Rattle.handed.proofs.messages_fit.Goals as goal

pub returns : goal.returns
returns c =
    let test = message_fits (round_in c.args.s.now) in
    let n = c.held_of-held.result in
    all_from_yields_List test _ _ _ c.all.ensures.ran (YieldsList-from_range 0 n n (cc) (omega arith)) (λ x b q w. search (rules, tests))
    ∙ all_range test n
    ∙ ap (λ (k : ℕ). all test (below k)) c.held_of-held.ensures.0
