use mathlib.Core.Path.{sym}
use Rattle.notes.proofs.Fields.{forkedlow_in, forkedhigh_in}
use Rattle.notes.proofs.readers.forked_in.Goals as goal

pub returns : goal.returns
returns c = let w = c.args.words.now in (sym (forkedlow_in w), sym (forkedhigh_in w))
