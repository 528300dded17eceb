use mathlib.Core.Path.{sym, ◌∙◌}
use Rattle.roundbytes.proofs.Fields.{house_in}
use Rattle.roundbytes.proofs.readers.house_of.Goals as goal

pub returns : goal.returns
returns c = c.read16.ensures.0 ∙ sym (house_in c.args.s.now)
