use mathlib.Core.Path.{◌≡◌}
use Prim.Native.Nat.{◌≤◌}
use Rattle.base.specs.Tests.{all, below}
use Rattle.graph.specs.Memory.{view_of}
use Rattle.graph.specs.LearnerGraph.{condensed_at}
use Rattle.graph.proofs.Graph.condensed_pair.Given as goal

-- The invariant: the learners that are left decide.
abbrev pub invariant-loop-c : goal.invariant-loop-c
invariant-loop-c l = (l.c ≤ l.self.learners) × (all (λ c. condensed_at (view_of l.self) l.a l.b c) (below l.self.learners) ≡ all (λ c. condensed_at (view_of l.self) l.a l.b c) (below l.c))
