use mathlib.Core.Path.{sym}
use Rattle.roundbytes.proofs.Fields.{last_in}
use Rattle.roundbytes.proofs.readers.last_of.Goals as goal

pub returns : goal.returns
returns c = sym (last_in c.args.s.now)
