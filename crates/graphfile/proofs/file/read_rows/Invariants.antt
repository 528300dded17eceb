use Rattle.graphfile.proofs.Reader.{RowsFilled}
use Rattle.graphfile.proofs.file.read_rows.Given as goal

-- The invariant: the rows that were read are put in, and the others are still to be read.
abbrev pub invariant-loop-a : goal.invariant-loop-a
invariant-loop-a l = RowsFilled l.s l.at l.initial.graph l.here l.a l.graph
