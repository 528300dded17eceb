use mathlib.Core.Path.{◌≡◌}
use mathlib.Core.Bool.{◌&&◌}
use Prim.Native.Nat.{ℕ, ◌≤◌, ◌-◌}
use lib.Dec.{eqb}
use Rattle.base.specs.Tests.{any, below}
use Rattle.base.specs.Sets.{has}
use Rattle.roundbytes.specs.Layout.{round_in}
use Rattle.notes.specs.Inside.Layout.{word_notes, byte_notes}
use Rattle.voting.specs.Inside.Votes.{is_barred}
use Rattle.voting.proofs.learners.opposing.Given as goal

-- the mask has the barred learners below b
abbrev pub invariant-loop-b : goal.invariant-loop-b
invariant-loop-b v = (v.b ≤ v.l) × ((q : ℕ) → has v.mask q ≡ any (λ b. is_barred (round_in v.s) (word_notes v.notes.words) (byte_notes v.notes.octets) v.n v.set.low v.set.high v.signer v.v b && eqb b q) (below v.b))

abbrev pub decreases-loop-b : goal.decreases-loop-b
decreases-loop-b v = v.l - v.b
