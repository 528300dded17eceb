use Rattle.std.proofs.Common.{rules}
use Rattle.places.proofs.Walks.{first_low, first_high}
use Rattle.places.proofs.Places.first_below.Goals as goal

pub returns-then-low-ne0 : goal.returns-then-low-ne0
returns-then-low-ne0 c = let a = c.args in first_low a.n a.self.low a.self.high c.min.result (search rules) c.if-low-ne0.true c.min.ensures

pub returns : goal.returns
returns c = let a = c.args in first_high a.n a.self.low a.self.high c.min-2.result (search rules) c.requires c.if-low-ne0.false c.min-2.ensures
