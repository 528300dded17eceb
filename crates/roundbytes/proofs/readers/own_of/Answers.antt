use mathlib.Core.Path.{sym, ◌∙◌}
use Rattle.roundbytes.proofs.Fields.{own_in}
use Rattle.roundbytes.proofs.readers.own_of.Goals as goal

pub returns : goal.returns
returns c = c.read16.ensures.0 ∙ sym (own_in c.args.s.now)
