use mathlib.Core.Path.{◌≡◌}
use mathlib.Core.Bool.{not, ◌&&◌}
use Prim.Native.Nat.{ℕ, ◌≤◌}
use lib.Dec.{eqb}
use Rattle.base.specs.Tests.{any, below}
use Rattle.base.specs.Sets.{has}
use Rattle.graph.specs.LearnerGraph.{safe_without}
use Rattle.graph.specs.Memory.{view_of}
use Rattle.voting.proofs.learners.fresh_for.Given as goal

-- the mask has the learners below a that none is against
abbrev pub invariant-loop-a : goal.invariant-loop-a
invariant-loop-a v = (v.a ≤ v.k) × ((q : ℕ) → has v.mask q ≡ any (λ a. not (any (λ b. safe_without (view_of v.graph) a b (has v.caught) && has v.against b) (below v.l)) && eqb a q) (below v.a))
