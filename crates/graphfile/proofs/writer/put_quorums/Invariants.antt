use mathlib.Core.Path.{◌≡◌}
use lib.ListN.{length}
use Rattle.graph.specs.Memory.{view_of}
use Rattle.graphfile.specs.Writer.{lists_bytes}
use Rattle.graphfile.specs.Inside.Steps.{quorums_of}
use Rattle.graphfile.proofs.Putting.{ListsPut}
use Rattle.graphfile.proofs.writer.put_quorums.Given as goal

-- The invariant: the lists of the learners before a are put in, and the others are still to be put in.
abbrev pub invariant-loop-a : goal.invariant-loop-a
invariant-loop-a l = (length l.out ≡ length l.fn.out) × ListsPut (view_of l.graph).quorums l.graph.learners (lists_bytes (quorums_of l.graph)) l.at l.fn.out l.a l.here l.out
