use mathlib.Core.Path.{sym}
use Rattle.notes.proofs.Fields.{fresh_at_lem}
use Rattle.notes.proofs.readers.fresh_at.Goals as goal

pub returns : goal.returns
returns c = let a = c.args in sym (fresh_at_lem a.octets.now a.p c.requires.1)
