use mathlib.Core.Path.{sym, ◌∙◌}
use Prim.Native.Nat.{◌-◌}
use Rattle.places.proofs.Membership.{has_shift, in_low, in_high}
use Rattle.places.proofs.Places.has.Goals as goal

pub returns-then-j-lt64 : goal.returns-then-j-lt64
returns-then-j-lt64 c = let a = c.args in has_shift a.self.low a.j ∙ sym (in_low a.self.low a.self.high a.j c.if-j-lt64.true)

pub returns-else-j-lt64 : goal.returns-else-j-lt64
returns-else-j-lt64 c = let a = c.args in has_shift a.self.high (a.j - 64) ∙ sym (in_high a.self.low a.self.high a.j c.if-j-lt64.false)
