use mathlib.Core.Path.{sym, ◌∙◌}
use borrow.Author.Rules.{rules}
use Rattle.roundbytes.proofs.Fields.{learners_in}
use Rattle.roundbytes.proofs.readers.learners_of.Goals as goal

pub returns : goal.returns
returns c = (c.from.ensures ∙ sym (learners_in c.args.s.now), search rules)
