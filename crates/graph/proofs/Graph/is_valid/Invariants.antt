use mathlib.Core.Path.{◌≡◌}
use Prim.Native.Nat.{◌≤◌}
use Rattle.base.specs.Tests.{all, below}
use Rattle.graph.specs.Memory.{view_of}
use Rattle.graph.specs.LearnerGraph.{valid_at}
use Rattle.graph.proofs.Graph.is_valid.Given as goal

-- The invariant: the learners that are left decide.
abbrev pub invariant-loop-a : goal.invariant-loop-a
invariant-loop-a l = (l.a ≤ l.self.learners) × (all (λ x. all (λ b. valid_at (view_of l.self) x b) (below l.self.learners)) (below l.self.learners) ≡ all (λ x. all (λ b. valid_at (view_of l.self) x b) (below l.self.learners)) (below l.a))
