use borrow.Author.Rules.{rules}
use Rattle.round.specs.Delivery.{hold}
use Rattle.holding.proofs.hold.hold_proposal.Goals as goal

pub returns : goal.returns
unfolding hold
returns c = search rules
