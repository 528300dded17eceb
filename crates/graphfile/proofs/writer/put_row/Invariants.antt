use mathlib.Core.Path.{◌≡◌}
use lib.ListN.{length}
use Rattle.graph.specs.Memory.{view_of}
use Rattle.graphfile.specs.Writer.{lists_bytes}
use Rattle.graphfile.specs.Inside.Steps.{row_of}
use Rattle.graphfile.proofs.Putting.{ListsPut}
use Rattle.graphfile.proofs.writer.put_row.Given as goal

-- The invariant: the lists of the pairs before a-b are put in, and the others are still to be put in.
abbrev pub invariant-loop-b : goal.invariant-loop-b
invariant-loop-b l = (length l.out ≡ length l.fn.out) × ListsPut ((view_of l.graph).safes l.a) l.graph.learners (lists_bytes (row_of l.graph l.a)) l.at l.fn.out l.b l.here l.out
