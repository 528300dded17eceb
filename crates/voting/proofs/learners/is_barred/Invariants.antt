use mathlib.Core.Path.{◌≡◌}
use Rattle.base.specs.Tests.{any, below}
use Rattle.places.proofs.Going.{coming, run, or_test}
use Rattle.roundbytes.specs.Layout.{round_in}
use Rattle.notes.specs.Inside.Layout.{word_notes, byte_notes}
use Rattle.voting.specs.Inside.Votes.{is_opposed}
use Rattle.voting.proofs.learners.is_barred.Given as goal

-- with what is found at the places to come, it tells whether there is such a place among the n
abbrev pub invariant-loop-j : goal.invariant-loop-j
invariant-loop-j l =
    let test = is_opposed (round_in l.s) (word_notes l.notes.words) (byte_notes l.notes.octets) l.set.low l.set.high l.b l.signer l.v l.p in
    run (or_test test) l.found (coming l.j-iterator) ≡ any test (below l.n)
