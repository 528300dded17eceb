use mathlib.Core.Path.{sym, ap, ◌∙◌}
use mathlib.Core.Bool.{Bool, ◌&&◌, ◌||◌}
use Prim.Native.Nat.{ℕ}
use lib.Dec.{eqb}
use lib.ListN.{get_or}
use Rattle.base.specs.Sets.{has}
use Rattle.places.proofs.Membership.{has_zero}
use Rattle.voting.proofs.learners.put_backer.Goals as goal

pub returns-then-to-eq0 : goal.returns-then-to-eq0
returns-then-to-eq0 c = let a = c.args in λ x q h l. sym (ap (λ (b : Bool). (b && eqb a.p q) || has (get_or a.sets.now x 0) q) (ap (λ (t : ℕ). has t x) c.if-to-eq0.true ∙ has_zero x))
