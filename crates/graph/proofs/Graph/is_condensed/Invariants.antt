use mathlib.Core.Path.{◌≡◌}
use Prim.Native.Nat.{◌≤◌}
use Rattle.base.specs.Tests.{all, below}
use Rattle.graph.specs.Memory.{view_of}
use Rattle.graph.specs.LearnerGraph.{condensed_at}
use Rattle.graph.proofs.Graph.is_condensed.Given as goal

-- The invariant: the learners that are left decide.
abbrev pub invariant-loop-a : goal.invariant-loop-a
invariant-loop-a l = (l.a ≤ l.self.learners) × (all (λ x. all (λ b. all (λ c. condensed_at (view_of l.self) x b c) (below l.self.learners)) (below l.self.learners)) (below l.self.learners) ≡ all (λ x. all (λ b. all (λ c. condensed_at (view_of l.self) x b c) (below l.self.learners)) (below l.self.learners)) (below l.a))
