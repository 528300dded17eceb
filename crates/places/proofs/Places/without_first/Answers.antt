use Rattle.std.proofs.Common.{rules}
use Rattle.places.proofs.Walks.{dropped_low, dropped_high, dropped_none}
use Rattle.places.proofs.Places.without_first.Goals as goal

pub returns-then-low-ne0 : goal.returns-then-low-ne0
returns-then-low-ne0 c = let a = c.args in dropped_low a.self.low a.self.high (search rules) c.if-low-ne0.true

pub returns-then-high-ne0 : goal.returns-then-high-ne0
returns-then-high-ne0 c = let a = c.args in dropped_high a.self.low a.self.high c.if-low-ne0.false

pub returns : goal.returns
returns c = let a = c.args in dropped_none a.self.low a.self.high c.if-low-ne0.false c.if-high-ne0.false
