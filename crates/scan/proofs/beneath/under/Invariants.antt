use Prim.Native.Nat.{◌≤◌}
use lib.ListN.{length, take}
use Rattle.roundbytes.specs.Layout.{round_in}
use Rattle.notes.specs.Inside.Layout.{word_notes}
use Rattle.scan.specs.Inside.Arrays.{Beneath}
use Rattle.scan.proofs.beneath.under.Given as goal

-- what was gathered lies beneath the first i of the places
abbrev pub invariant-loop-p : goal.invariant-loop-p
invariant-loop-p l = (l.p-index ≤ length l.places) × Beneath (round_in l.s) (word_notes l.notes.words) (take l.p-index l.places) l.low l.high l.ballot l.offered
