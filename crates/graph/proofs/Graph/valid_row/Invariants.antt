use mathlib.Core.Path.{◌≡◌}
use Prim.Native.Nat.{◌≤◌}
use Rattle.base.specs.Tests.{all, below}
use Rattle.graph.specs.Memory.{view_of}
use Rattle.graph.specs.LearnerGraph.{valid_at}
use Rattle.graph.proofs.Graph.valid_row.Given as goal

-- The invariant: the learners that are left decide.
abbrev pub invariant-loop-b : goal.invariant-loop-b
invariant-loop-b l = (l.b ≤ l.self.learners) × (all (λ b. valid_at (view_of l.self) l.a b) (below l.self.learners) ≡ all (λ b. valid_at (view_of l.self) l.a b) (below l.b))
