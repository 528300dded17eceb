use mathlib.Core.Path.{sym}
use Rattle.notes.proofs.Fields.{forklow_at, forkhigh_at}
use Rattle.notes.proofs.readers.forks_at.Goals as goal

pub returns : goal.returns
returns c = let a = c.args in let h = c.requires.1 in (sym (forklow_at a.words.now a.p h), sym (forkhigh_at a.words.now a.p h))
