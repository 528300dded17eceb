use mathlib.Core.Path.{sym}
use Rattle.roundbytes.proofs.Fields.{recent_at_lem}
use Rattle.roundbytes.proofs.readers.recent_at.Goals as goal

pub returns : goal.returns
returns c = let a = c.args in sym (recent_at_lem a.s.now a.p c.requires.1)
