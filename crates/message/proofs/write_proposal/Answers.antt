use mathlib.Core.Path.{ap, ◌∙◌}
use Prim.Native.Nat.{ℕ}
use lib.ListN.{length}
use borrow.Author.Tests.{lt-ltb, le-ltb}
use Rattle.base.specs.Bytes.{bytes, put_at}
use Rattle.base.proofs.Bytes.{more}
use Rattle.base.specs.Ballots.{ballot_of}
use Rattle.message.specs.Layout.{proposal_len, proposal_kind, ballot_at}
use Rattle.message.specs.Writer.{head_bytes}
use Rattle.message.proofs.write_proposal.Goals as goal

pub returns-then-buf-lt-PROPOSAL_LEN : goal.returns-then-buf-lt-PROPOSAL_LEN
unfolding bytes
returns-then-buf-lt-PROPOSAL_LEN c =
    let a = c.args in
    let l = lt-ltb (length a.buf.now) proposal_len c.if-buf-lt-PROPOSAL_LEN.true in
    (simp l, simp l)

pub returns : goal.returns
unfolding bytes
returns c =
    let a = c.args in
    let b = a.buf.now in
    let head = c.write_head in
    let l = le-ltb (length b) proposal_len c.if-buf-lt-PROPOSAL_LEN.false in
    let w = c.put64.ensures ∙ ap (λ (y : ℕ). put_at head.new.buf ballot_at (bytes 8 y)) c.ballot_of.ensures in
    let m = more (head_bytes proposal_len proposal_kind a.house a.bay a.proposer) (bytes 8 (ballot_of a.round a.value)) b head.new.buf c.put64.new.buf head.ensures w in
    (simp l, m ∙ simp l)
