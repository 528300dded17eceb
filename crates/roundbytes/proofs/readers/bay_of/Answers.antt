use mathlib.Core.Path.{sym, ◌∙◌}
use Rattle.roundbytes.proofs.Fields.{bay_in}
use Rattle.roundbytes.proofs.readers.bay_of.Goals as goal

pub returns : goal.returns
returns c = c.read16.ensures.0 ∙ sym (bay_in c.args.s.now)
