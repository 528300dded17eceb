use mathlib.Core.Path.{sym, ◌∙◌}
use Rattle.roundbytes.proofs.Fields.{ballot_at_lem}
use Rattle.roundbytes.proofs.readers.ballot_at.Goals as goal

pub returns : goal.returns
returns c = let a = c.args in c.read64.ensures ∙ sym (ballot_at_lem a.s.now a.p c.requires.1)
