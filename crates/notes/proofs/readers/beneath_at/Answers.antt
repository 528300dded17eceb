use mathlib.Core.Path.{sym}
use Rattle.notes.proofs.Fields.{low_at, high_at_lem}
use Rattle.notes.proofs.readers.beneath_at.Goals as goal

pub returns : goal.returns
returns c = let a = c.args in let h = c.requires.1 in (sym (low_at a.words.now a.p h), sym (high_at_lem a.words.now a.p h))
