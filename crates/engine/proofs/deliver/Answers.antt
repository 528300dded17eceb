use borrow.Author.Tests.{lt-ltb}
use lib.ListN.{length}
use Rattle.engine.specs.Calls.{deliver_answer, deliver_to, reply_to}
use Rattle.roundbytes.specs.Layout.{round_len}
use Rattle.engine.proofs.InBuffer.{answers}
use Rattle.engine.proofs.deliver.Goals as goal

pub returns-then-s-lt-ROUND_LEN : goal.returns-then-s-lt-ROUND_LEN
unfolding deliver_answer deliver_to reply_to
returns-then-s-lt-ROUND_LEN c = let short = lt-ltb (length c.args.s.now) round_len c.if-s-lt-ROUND_LEN.true in (simp short, (simp short, simp short))

pub returns : goal.returns
returns c =
    let a = c.args in
    let d = c.deliver_in in
    answers a.s.now d.new.s (λ k. (c.slice_known-1.given k).fits) (λ k. (c.slice_known-3-1.given k).fits) c.if-s-lt-ROUND_LEN.false d.ensures.kept a.bytes.now a.reply.now d.new.reply d.result d.ensures.given.0 d.ensures.given.1.0 d.ensures.given.1.1
