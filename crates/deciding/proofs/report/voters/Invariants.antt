use mathlib.Core.Path.{◌≡◌}
use mathlib.Core.Bool.{◌&&◌}
use Prim.Native.Nat.{ℕ, ◌<◌}
use lib.Dec.{eqb}
use Rattle.base.specs.Tests.{any, below}
use Rattle.base.specs.Sets.{has}
use Rattle.graph.specs.Limits.{mask_bits}
use Rattle.places.proofs.Going.{coming, run, or_test}
use Rattle.round.specs.Holdings.{signer_at}
use Rattle.roundbytes.specs.Layout.{round_in}
use Rattle.notes.specs.Inside.Layout.{word_notes, byte_notes}
use Rattle.deciding.specs.Inside.Deciding.{is_voter}
use Rattle.deciding.proofs.report.voters.Given as goal

-- with the signers of the voters to come, the mask has those of the voters among the n places
abbrev pub invariant-loop-j : goal.invariant-loop-j
invariant-loop-j l =
    let voter = is_voter (round_in l.s) (word_notes l.notes.words) (byte_notes l.notes.octets) l.a l.x in
    let signer = signer_at (round_in l.s) in
    (p : ℕ) → p < mask_bits → run (or_test (λ j. voter j && eqb (signer j) p)) (has l.mask p) (coming l.j-iterator) ≡ any (λ j. voter j && eqb (signer j) p) (below l.n)
