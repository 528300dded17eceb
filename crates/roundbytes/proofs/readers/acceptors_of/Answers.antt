use mathlib.Core.Path.{sym}
use Rattle.roundbytes.proofs.Fields.{acceptors_in}
use Rattle.roundbytes.proofs.readers.acceptors_of.Goals as goal

pub returns : goal.returns
returns c = sym (acceptors_in c.args.s.now)
