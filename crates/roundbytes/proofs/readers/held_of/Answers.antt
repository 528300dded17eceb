use mathlib.Core.Path.{sym, ◌∙◌}
use borrow.Author.Rules.{rules}
use Rattle.roundbytes.proofs.Fields.{held_in_lem}
use Rattle.roundbytes.proofs.readers.held_of.Goals as goal

pub returns : goal.returns
returns c = (c.from.ensures ∙ sym (held_in_lem c.args.s.now), search rules)
