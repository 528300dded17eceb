use mathlib.Core.Path.{sym}
use Rattle.notes.proofs.Fields.{keylow_at, keyhigh_at}
use Rattle.notes.proofs.readers.key_set.Goals as goal

pub returns : goal.returns
returns c = let a = c.args in let h = c.requires.1 in (sym (keylow_at a.words.now a.k h), sym (keyhigh_at a.words.now a.k h))
