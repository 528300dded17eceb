use mathlib.Core.Path.{◌≡◌}
use Prim.Native.Nat.{◌≤◌}
use Rattle.base.specs.Tests.{all, below}
use Rattle.graph.specs.Memory.{view_of}
use Rattle.graph.specs.LearnerGraph.{condensed_at}
use Rattle.graph.proofs.Graph.condensed_row.Given as goal

-- The invariant: the learners that are left decide.
abbrev pub invariant-loop-b : goal.invariant-loop-b
invariant-loop-b l = (l.b ≤ l.self.learners) × (all (λ b. all (λ c. condensed_at (view_of l.self) l.a b c) (below l.self.learners)) (below l.self.learners) ≡ all (λ b. all (λ c. condensed_at (view_of l.self) l.a b c) (below l.self.learners)) (below l.b))
