use Prim.Native.Nat.{◌≤◌}
use Rattle.roundbytes.specs.Layout.{round_in}
use Rattle.notes.specs.Inside.Layout.{word_notes, byte_notes}
use Rattle.derive.specs.Inside.Complete.{Extended}
use Rattle.derive.proofs.pass.extend.Given as goal

-- The invariant: the notes of the first p places are extended from those that the call was handed. Each turn notes one place more.
abbrev pub invariant-loop-p : goal.invariant-loop-p
invariant-loop-p l =
    (l.p ≤ l.n) × Extended (round_in l.s) l.from l.p (word_notes l.initial.notes.words) (word_notes l.notes.words) (byte_notes l.initial.notes.octets) (byte_notes l.notes.octets)
