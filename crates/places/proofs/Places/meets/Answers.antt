use Rattle.std.proofs.Common.{rules}
use Rattle.places.proofs.Membership.{meet_is}
use Rattle.places.proofs.Places.meets.Goals as goal

pub returns : goal.returns
returns c = let a = c.args in meet_is a.self.low a.self.high a.other.low a.other.high (search rules) (search rules)
