use Prim.Native.Nat.{◌-◌}
use Rattle.graph.specs.Memory.{pair_list}
use Rattle.graphfile.proofs.Reader.{Filled}
use Rattle.graphfile.proofs.file.read_row.Given as goal

-- The invariant: the lists that were read are put in, and the others are still to be read.
abbrev pub invariant-loop-b : goal.invariant-loop-b
invariant-loop-b l = Filled l.s 0 (l.initial.graph.learners - l.a) l.at l.a (pair_list l.a) l.initial.graph l.here (l.b - l.a) l.graph
