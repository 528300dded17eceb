use mathlib.Core.Path.{◌≡◌}
use Prim.Native.Nat.{◌≤◌}
use lib.ListN.{length, take}
use Rattle.base.specs.Tests.{any}
use Rattle.notes.specs.Inside.Layout.{word_notes, byte_notes}
use Rattle.scan.specs.Inside.Arrays.{is_repeat}
use Rattle.scan.proofs.repeats.is_repeated.Given as goal

-- it was found whether one of the first i of the places holds such a 2a
abbrev pub invariant-loop-p : goal.invariant-loop-p
invariant-loop-p l = (l.p-index ≤ length l.places)
    × (l.found ≡ any (is_repeat (word_notes l.notes.words) (byte_notes l.notes.octets) l.name l.ballot l.learners) (take l.p-index l.places))
