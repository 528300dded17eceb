use mathlib.Core.Path.{◌≡◌}
use lib.ListN.{length}
use Rattle.graphfile.proofs.Putting.{MasksPut}
use Rattle.graphfile.proofs.writer.put_list.Given as goal

-- The invariant: the count and the masks up to here are put in, and the others are still to be put in.
abbrev pub invariant-loop-m : goal.invariant-loop-m
invariant-loop-m l = (length l.out ≡ length l.fn.out) × MasksPut l.list l.at l.fn.out l.m-index l.here l.out
