use mathlib.Core.Path.{◌≡◌}
use Prim.Native.Nat.{ℕ}
use Rattle.base.specs.Tests.{any, below}
use Rattle.base.specs.Sets.{has}
use Rattle.places.proofs.Going.{coming, run, or_test}
use Rattle.roundbytes.specs.Layout.{round_in}
use Rattle.notes.specs.Inside.Layout.{word_notes, byte_notes}
use Rattle.voting.specs.Inside.Votes.{is_rival}
use Rattle.voting.proofs.learners.rivals.Given as goal

-- with the learners of the rivals to come, the mask has those of the rivals among the n places
abbrev pub invariant-loop-j : goal.invariant-loop-j
invariant-loop-j l =
    let test = is_rival (round_in l.s) (word_notes l.notes.words) (byte_notes l.notes.octets) l.set.low l.set.high l.signer l.v in
    (b : ℕ) → run (or_test (test b)) (has l.mask b) (coming l.j-iterator) ≡ any (test b) (below l.n)
