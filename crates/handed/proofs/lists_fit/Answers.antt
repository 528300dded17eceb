use Prim.Native.Nat.{ℕ, ◌≤◌, ◌<◌, ◌*◌, ◌+◌, ◌/◌}
use native.Mathlib.Nat.{mul-le-mul_right}
use native.Mathlib.Omega.{arith}
use mathlib.Core.Path.{◌≡◌, ◌∙◌}
use Rattle.std.proofs.Common.{rules, tests}
use Rattle.std.proofs.iter.Serving.{serving}
use Rattle.std.proofs.lemmas.Iterator.{YieldsList-from_range}
use Rattle.std.proofs.lemmas.Iterator.Search.{all_from_yields_List}
use Rattle.graph.specs.Limits.{max_learners, lists}
use Rattle.graph.proofs.Chains.{all_range}
use Rattle.graph.proofs.Memory.{triangle_half}
use Rattle.graph.specs.Memory.{triangle}
use Rattle.round.specs.Handed.{list_fits}
use Rattle.roundbytes.specs.Layout.{round_in}
use Rattle.handed.proofs.lists_fit.Goals as goal

small : (l : ℕ) → l ≤ max_learners → l * (l + 1) ≤ max_learners * (max_learners + 1)
small l h = let e : l * (l + 1) ≤ max_learners * (l + 1) = mul-le-mul_right (l + 1) h in omega arith

pub all-requires-clause-callable : goal.all-requires-clause-callable
all-requires-clause-callable c =
    let n = c.learners_of-learners.result in
    let e = c.learners_of-learners.ensures.0 in
    let h = small n (omega (arith, c.requires.1)) in
    let few : n * (n + 1) / 2 < 256 = omega arith in
    let all-pairs : n * (n + 1) / 2 ≡ triangle n = triangle_half n in
    grind serving

pub returns : goal.returns
returns c =
    let test = list_fits (round_in c.args.s.now).graph in
    all_from_yields_List test _ _ _ c.all.ensures.ran (YieldsList-from_range 0 lists lists (cc) (omega arith)) (λ x b q w. search (rules, tests))
    ∙ all_range test lists
