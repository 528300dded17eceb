use mathlib.Core.Path.{◌≡◌}
use Prim.Native.Nat.{ℕ}
use Rattle.places.proofs.Going.{coming, run}
use Rattle.notes.specs.Inside.Layout.{word_notes, byte_notes}
use Rattle.voting.specs.Inside.Votes.{vote_ballot, raised, peaks_of}
use Rattle.voting.specs.declared.Peaks.{Peaks}
use Rattle.voting.proofs.learners.peaks.Given as goal

-- raised by the votes to come, the peaks are those of the n places
abbrev pub invariant-loop-j : goal.invariant-loop-j
invariant-loop-j l =
    let ballot = vote_ballot (word_notes l.notes.words) (byte_notes l.notes.octets) l.set.low l.set.high l.b in
    run (λ (p : Peaks) (j : ℕ). raised p (ballot j)) l.p (coming l.j-iterator) ≡ peaks_of ballot l.n
