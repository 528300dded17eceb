use mathlib.Core.Path.{◌≡◌}
use mathlib.Core.Bool.{◌&&◌}
use Prim.Native.Nat.{ℕ, ◌<◌}
use lib.Dec.{eqb}
use Rattle.base.specs.Tests.{any, below}
use Rattle.base.specs.Sets.{has}
use Rattle.graph.specs.Limits.{mask_bits}
use Rattle.places.proofs.Going.{coming, run, or_test}
use Rattle.round.specs.Holdings.{signer_at}
use Rattle.roundbytes.specs.Layout.{round_in}
use Rattle.notes.specs.Inside.Layout.{word_notes}
use Rattle.scan.specs.Inside.Arrays.{is_caught}
use Rattle.scan.proofs.forks.caught_in.Given as goal

-- with the signers of those of the places to come that are caught, the mask has those of the n places
abbrev pub invariant-loop-j : goal.invariant-loop-j
invariant-loop-j l =
    let test = is_caught (word_notes l.notes.words) l.set.low l.set.high in
    let signer = signer_at (round_in l.s) in
    (p : ℕ) → p < mask_bits → run (or_test (λ j. test j && eqb (signer j) p)) (has l.mask p) (coming l.j-iterator) ≡ any (λ j. test j && eqb (signer j) p) (below l.n)
