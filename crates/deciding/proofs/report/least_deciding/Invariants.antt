use mathlib.Core.Path.{◌≡◌}
use Prim.Native.Nat.{ℕ}
use lib.ListN.{get_or}
use Rattle.std.proofs.Common.{Option}
use Rattle.places.proofs.Going.{coming, run}
use Rattle.roundbytes.specs.Layout.{round_in}
use Rattle.notes.specs.Inside.Layout.{word_notes, byte_notes}
use Rattle.deciding.specs.Inside.Deciding.{is_deciding, lowered, least_of}
use Rattle.deciding.proofs.report.least_deciding.Given as goal

-- lowered by the ballots to come, the least is that of the n places
abbrev pub invariant-loop-j : goal.invariant-loop-j
invariant-loop-j l =
    let test = is_deciding (round_in l.s) (word_notes l.notes.words) (byte_notes l.notes.octets) l.a l.but in
    let top : ℕ → ℕ = λ j. get_or (word_notes l.notes.words).tops j 0 in
    run (λ (p : Option ℕ) (j : ℕ). lowered p (test j) (top j)) l.least (coming l.j-iterator) ≡ least_of test top l.n
