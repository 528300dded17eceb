use Prim.Native.Nat.{◌≤◌}
use Rattle.roundbytes.specs.Layout.{round_in}
use Rattle.notes.specs.Inside.Layout.{word_notes, byte_notes}
use Rattle.scan.specs.Inside.Arrays.{NamedAll}
use Rattle.scan.proofs.names.name_places.Given as goal

-- the first i places have their names and are in the index of the ids
abbrev pub invariant-loop-i : goal.invariant-loop-i
invariant-loop-i l = (l.i ≤ l.n) × NamedAll (round_in l.s) l.i (word_notes l.initial.notes.words) (word_notes l.notes.words) (byte_notes l.initial.notes.octets) (byte_notes l.notes.octets)
