use Rattle.places.proofs.Membership.{has_shift}
use Rattle.places.proofs.sets.has_learner.Goals as goal

pub returns : goal.returns
returns c = has_shift c.args.mask c.args.a
