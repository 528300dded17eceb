use mathlib.Core.Path.{ap, sym, ◌∙◌}
use mathlib.Core.Bool.{Bool, ◌&&◌, ◌||◌}
use lib.Dec.{eqb}
use Rattle.base.specs.Sets.{has}
use Rattle.places.proofs.Membership.{has_with}
use Rattle.places.proofs.sets.with_learner.Goals as goal

pub returns-then-on : goal.returns-then-on
returns-then-on c = let a = c.args in λ q. has_with 8 a.mask a.a q c.requires ∙ sym (ap (λ (b : Bool). (b && eqb a.a q) || has a.mask q) c.if-on.true)
