use mathlib.Core.Path.{◌≡◌}
use mathlib.Core.Bool.{◌&&◌}
use Prim.Native.Nat.{ℕ, ◌<◌}
use lib.Dec.{eqb}
use lib.ListN.{length, get_or}
use Rattle.base.specs.Tests.{any, below}
use Rattle.base.specs.Sets.{has}
use Rattle.places.proofs.Going.{coming, run, or_test}
use Rattle.round.specs.Holdings.{signer_at}
use Rattle.roundbytes.specs.Layout.{round_in}
use Rattle.notes.specs.Inside.Layout.{word_notes, byte_notes}
use Rattle.voting.specs.Inside.Votes.{is_backer}
use Rattle.graph.specs.Limits.{max_learners, mask_bits}
use Rattle.voting.proofs.learners.backers.Given as goal

-- with the signers of the backers to come, the sets hold those of the backers among the n places
abbrev pub invariant-loop-j : goal.invariant-loop-j
invariant-loop-j l =
    let backer = is_backer (word_notes l.notes.words) (byte_notes l.notes.octets) l.set.low l.set.high in
    let signer = signer_at (round_in l.s) in
    (length l.sets ≡ max_learners)
    × ((a p : ℕ) → a < l.k → p < mask_bits → run (or_test (λ j. backer a l.ballot j && eqb (signer j) p)) (has (get_or l.sets a 0) p) (coming l.j-iterator)
    ≡ any (λ j. backer a l.ballot j && eqb (signer j) p) (below l.n))
