use mathlib.Core.Path.{sym}
use Rattle.notes.proofs.Fields.{idlow_at, idhigh_at}
use Rattle.notes.proofs.readers.id_set.Goals as goal

pub returns : goal.returns
returns c = let a = c.args in let h = c.requires.1 in (sym (idlow_at a.words.now a.k h), sym (idhigh_at a.words.now a.k h))
