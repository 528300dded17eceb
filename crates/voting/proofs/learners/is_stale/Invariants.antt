use mathlib.Core.Path.{◌≡◌}
use mathlib.Core.Bool.{◌&&◌}
use Prim.Native.Nat.{◌≤◌, ◌-◌}
use Rattle.base.specs.Tests.{any, below}
use Rattle.base.specs.Sets.{has}
use Rattle.graph.specs.LearnerGraph.{safe_without}
use Rattle.graph.specs.Memory.{view_of}
use Rattle.voting.proofs.learners.is_stale.Given as goal

-- it tells whether there is such a learner below b
abbrev pub invariant-loop-b : goal.invariant-loop-b
invariant-loop-b v = (v.b ≤ v.l) × (v.found ≡ any (λ b. safe_without (view_of v.graph) v.a b (has v.caught) && has v.against b) (below v.b))

abbrev pub decreases-loop-b : goal.decreases-loop-b
decreases-loop-b v = v.l - v.b
