use mathlib.Core.Path.{◌≡◌}
use lib.ListN.{length}
use Rattle.graph.specs.Memory.{view_of}
use Rattle.graphfile.specs.Writer.{rows_bytes}
use Rattle.graphfile.specs.Inside.Steps.{rows_of}
use Rattle.graphfile.proofs.Putting.{RowsPut}
use Rattle.graphfile.proofs.writer.put_rows.Given as goal

-- The invariant: the rows of the learners before a are put in, and the others are still to be put in.
abbrev pub invariant-loop-a : goal.invariant-loop-a
invariant-loop-a l = (length l.out ≡ length l.fn.out) × RowsPut (view_of l.graph).safes l.graph.learners (rows_bytes (rows_of l.graph)) l.at l.fn.out l.a l.here l.out
