use Rattle.places.proofs.Membership.{in_and}
use Rattle.places.proofs.Places.common.Goals as goal

pub returns : goal.returns
returns c = let a = c.args in λ q l. in_and a.self.low a.self.high a.other.low a.other.high q
