use mathlib.Core.Path.{sym}
use Rattle.notes.proofs.Fields.{tops_at_lem}
use Rattle.notes.proofs.readers.top_at.Goals as goal

pub returns : goal.returns
returns c = let a = c.args in sym (tops_at_lem a.words.now a.p c.requires.1)
