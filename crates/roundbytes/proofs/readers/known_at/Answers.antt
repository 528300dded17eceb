use mathlib.Core.Path.{sym}
use Rattle.roundbytes.proofs.Fields.{known_at_lem}
use Rattle.roundbytes.proofs.readers.known_at.Goals as goal

pub returns : goal.returns
returns c = let a = c.args in sym (known_at_lem a.s.now a.p c.requires.1)
