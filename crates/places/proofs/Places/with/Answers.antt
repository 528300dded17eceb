use mathlib.Core.Path.{ap, sym, ◌∙◌}
use mathlib.Core.Bool.{Bool, ◌&&◌, ◌||◌}
use lib.Dec.{eqb}
use Rattle.places.specs.Inside.PlaceSets.{in_set}
use Rattle.places.proofs.Membership.{with_low, with_high}
use Rattle.places.proofs.Places.with.Goals as goal

pub returns-then-j-lt64 : goal.returns-then-j-lt64
returns-then-j-lt64 c = let a = c.args in λ q l. with_low a.self.low a.self.high a.j q c.if-j-lt64.true ∙ sym (ap (λ (b : Bool). (b && eqb a.j q) || in_set a.self.low a.self.high q) c.if-not-on.false)

pub returns-else-j-lt64 : goal.returns-else-j-lt64
returns-else-j-lt64 c = let a = c.args in λ q l. with_high a.self.low a.self.high a.j q c.if-j-lt64.false c.requires ∙ sym (ap (λ (b : Bool). (b && eqb a.j q) || in_set a.self.low a.self.high q) c.if-not-on.false)
