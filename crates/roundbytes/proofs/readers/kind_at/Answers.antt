use mathlib.Core.Path.{sym}
use Rattle.roundbytes.proofs.Fields.{kind_at}
use Rattle.roundbytes.proofs.readers.kind_at.Goals as goal

pub returns : goal.returns
returns c = let a = c.args in sym (kind_at a.s.now a.p c.requires.1)
