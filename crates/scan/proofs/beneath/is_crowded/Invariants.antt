use mathlib.Core.Path.{◌≡◌}
use Rattle.base.specs.Tests.{any, below}
use Rattle.places.proofs.Going.{coming, run, or_test}
use Rattle.roundbytes.specs.Layout.{round_in}
use Rattle.notes.specs.Inside.Layout.{word_notes, byte_notes}
use Rattle.scan.specs.Inside.Arrays.{is_crowding}
use Rattle.scan.proofs.beneath.is_crowded.Given as goal

-- with what is found at the places to come, it is found whether one of the n places crowds
abbrev pub invariant-loop-j : goal.invariant-loop-j
invariant-loop-j l =
    let test = is_crowding (round_in l.s) (word_notes l.notes.words) (byte_notes l.notes.octets) l.set.low l.set.high l.name l.ballot in
    run (or_test test) l.found (coming l.j-iterator) ≡ any test (below l.n)
