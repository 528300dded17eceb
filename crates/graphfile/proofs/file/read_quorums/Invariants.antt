use Rattle.graphfile.proofs.Reader.{Filled}
use Rattle.graphfile.proofs.file.read_quorums.Given as goal

-- The invariant: the lists that were read are put in, and the others are still to be read.
abbrev pub invariant-loop-a : goal.invariant-loop-a
invariant-loop-a l = Filled l.s 1 l.initial.graph.learners l.at 0 (λ x. x) l.initial.graph l.here l.a l.graph
