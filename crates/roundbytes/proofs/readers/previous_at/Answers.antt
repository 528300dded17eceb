use mathlib.Core.Path.{sym}
use Rattle.roundbytes.proofs.Fields.{previous_at_lem}
use Rattle.roundbytes.proofs.readers.previous_at.Goals as goal

pub returns : goal.returns
returns c = let a = c.args in sym (previous_at_lem a.s.now a.p c.requires.1)
