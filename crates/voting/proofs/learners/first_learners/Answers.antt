use mathlib.Core.Path.{ap, ◌∙◌}
use Prim.Native.Nat.{ℕ, ◌-◌}
use lib.Dec.{ltb→lt, lt→ltb}
use Rattle.base.specs.Sets.{has}
use Rattle.base.proofs.Tests.{same_test}
use Rattle.base.proofs.Bits.{one_shl}
use Rattle.base.proofs.Sets.{first_in, first_out}
use native.Mathlib.Omega.{arith}
use Rattle.graph.specs.Limits.{mask_bits}
use Rattle.voting.proofs.learners.first_learners.Goals as goal

pub returns : goal.returns
returns c = let k = c.args.k in λ q. ap (λ (x : ℕ). has (x - 1) q) (one_shl mask_bits k (omega arith)) ∙ same_test _ _ (λ t. lt→ltb q k (first_out k q t)) (λ t. first_in k q (ltb→lt q k t))
