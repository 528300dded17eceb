use mathlib.Core.Path.{◌≡◌}
use mathlib.Core.Bool.{◌&&◌}
use Prim.Native.Nat.{ℕ, ◌≤◌}
use lib.Dec.{eqb}
use lib.ListN.{get_or}
use Rattle.base.specs.Tests.{any, below}
use Rattle.base.specs.Sets.{has}
use Rattle.graph.specs.LearnerGraph.{is_quorum}
use Rattle.graph.specs.Memory.{view_of}
use Rattle.voting.proofs.learners.learners_for.Given as goal

-- the mask has the learners below a whose set is a quorum
abbrev pub invariant-loop-a : goal.invariant-loop-a
invariant-loop-a l = (l.a ≤ l.k) × ((q : ℕ) → has l.mask q ≡ any (λ x. is_quorum (view_of l.graph) x (has (get_or l.sets x 0)) && eqb x q) (below l.a))
