use mathlib.Core.Path.{sym}
use Rattle.notes.proofs.Fields.{names_at}
use Rattle.notes.proofs.readers.name_at.Goals as goal

pub returns : goal.returns
returns c = let a = c.args in sym (names_at a.octets.now a.p c.requires.1)
