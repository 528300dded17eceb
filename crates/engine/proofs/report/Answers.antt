use borrow.Author.Tests.{lt-ltb, le-ltb}
use lib.ListN.{length}
use mathlib.Core.Path.{◌∙◌, sym}
use Rattle.engine.specs.Calls.{report_answer}
use Rattle.roundbytes.specs.Layout.{round_len}
use Rattle.engine.proofs.report.Goals as goal

pub returns-then-s-lt-ROUND_LEN : goal.returns-then-s-lt-ROUND_LEN
unfolding report_answer
returns-then-s-lt-ROUND_LEN c = let short = lt-ltb (length c.args.s.now) round_len c.if-s-lt-ROUND_LEN.true in simp short

pub returns : goal.returns
unfolding report_answer
returns c = let whole = le-ltb (length c.args.s.now) round_len c.if-s-lt-ROUND_LEN.false in c.report_in.ensures ∙ sym (simp whole)
