use lib.Bits.{and_mask}
use Rattle.base.specs.Ballots.{value_of}
use Rattle.base.proofs.value.Goals as goal

pub returns : goal.returns
unfolding value_of
returns c = and_mask c.args.ballot 32
