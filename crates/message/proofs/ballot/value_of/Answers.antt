use mathlib.Core.Path.{sym, subst}
use Prim.Native.Nat.{ℕ, ◌<◌, ◌^◌}
use native.Mathlib.Omega.{arith}
use Rattle.base.specs.Ballots.{value_of}
use Rattle.message.proofs.ballot.value_of.Goals as goal

below : (x : ℕ) → value_of x < 2 ^ 32
unfolding value_of
below x = omega arith

pub overflow_cast-result : goal.overflow_cast-result
overflow_cast-result c = record { fits = subst (λ (v : ℕ). v < 2 ^ 32) (sym c.value.ensures) (below c.args.ballot) }
