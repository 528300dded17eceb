use mathlib.Core.Path.{◌≡◌}
use mathlib.Core.Bool.{◌&&◌}
use Prim.Native.Nat.{ℕ, ◌<◌}
use lib.Dec.{eqb}
use Rattle.base.specs.Tests.{any, below}
use Rattle.places.specs.Inside.PlaceSets.{in_set}
use Rattle.places.proofs.Going.{coming, run, or_test}
use Rattle.roundbytes.specs.Layout.{round_in}
use Rattle.notes.specs.Inside.Layout.{byte_notes}
use Rattle.scan.specs.Inside.Arrays.{is_fork}
use Rattle.round.specs.Limits.{max_held}
use Rattle.scan.proofs.forks.forking.Given as goal

-- with those of the places to come that fork, the set has those of the n places
abbrev pub invariant-loop-j : goal.invariant-loop-j
invariant-loop-j l =
    let test = is_fork (round_in l.s) (byte_notes l.notes.octets) l.signer l.name l.link in
    (q : ℕ) → q < max_held → run (or_test (λ j. test j && eqb j q)) (in_set l.found.low l.found.high q) (coming l.j-iterator) ≡ any (λ j. test j && eqb j q) (below l.n)
