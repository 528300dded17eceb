use Rattle.std.proofs.Common.{sym}
use Rattle.digest.proofs.LastBlocks as laws
use Rattle.digest.proofs.padding.last_size.Goals as goal

pub returns-then-message-lt56 : goal.returns-then-message-lt56
returns-then-message-lt56 c = sym (laws.one_last c.args.message.now c.if-message-lt56.true)

pub returns-else-message-lt56 : goal.returns-else-message-lt56
returns-else-message-lt56 c = sym (laws.two_last c.args.message.now c.if-message-lt56.false)
