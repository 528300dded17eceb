use borrow.Author.Rules.{rules}
use mathlib.Core.List.{List}
use Prim.Native.Nat.{ℕ, ◌≤◌}
use lib.ListN.{replicate, length, length-replicate, set}
use native.Mathlib.Omega.{arith}
use mathlib.Core.Path.{◌≡◌, ◌∙◌, ap, sym}
use Rattle.round.specs.Limits.{reply_len, max_held}
use Rattle.judging.proofs.Voting.{stands}
use Rattle.round.proofs.Fitting.{fits_out}
use Rattle.roundbytes.specs.Layout.{round_in}
use Rattle.answering.proofs.Replying.{reply_refers, reply_front, reply_record_lem, gives_second, front_none, gives_first, reply_long, put_front}
use Rattle.digest.specs.Sha256.{sha256}
use Rattle.round.specs.Reply.{reply_bytes, is_sent, reply_record}
use Rattle.round.specs.Rows.{message_of}
use Rattle.admission.specs.Inside.Votes.{record_of}
use Rattle.protocol.specs.Ids.{Id}
use Rattle.protocol.specs.Table.{Held}
use Rattle.round.specs.Delivery.{sent, joins, with_recent, hold}
use Rattle.answering.specs.Inside.Giving.{left, replies}
use Rattle.message.specs.Layout.{id_len}
use Rattle.base.specs.Bytes.{put_at}
use Rattle.answering.proofs.answer.answer.Goals as goal

pub form_reply-z-requires : goal.form_reply-z-requires
form_reply-z-requires c =
    let a = c.args in
    let p = c.requires in
    let zeros : List ℕ = replicate reply_len 0 in
    let l : reply_len ≤ length zeros = omega (arith, length-replicate {A = ℕ} reply_len 0) in
    record { whole = stands a.s.now p.0.passes; voting = p.1.1; last = (fits_out (round_in a.s.now) p.0.passes.fit).last; long = l }

pub is_sent-requires : goal.is_sent-requires
is_sent-requires c =
    let a = c.args in
    let p = c.requires in
    let r = round_in a.s.now in
    let f = fits_out r p.0.passes.fit in
    let z = c.form_reply-z in
    let now = z.new.buf in
    (p.0, reply_refers r f a.p p.1.0.here z.result z.ensures.0)

pub returns-then-not-is_sent : goal.returns-then-not-is_sent
returns-then-not-is_sent c =
    let a = c.args in
    let p = c.requires in
    let r = round_in a.s.now in
    let f = fits_out r p.0.passes.fit in
    let z = c.form_reply-z in
    let now = z.new.buf in
    let w = reply_front r f a.p p.1.0.here z.result z.ensures.0 (replicate reply_len 0) now z.ensures.1 in
    let i : c.sha256-id.result ≡ sha256 (reply_bytes r a.p) = c.sha256-id.ensures ∙ ap sha256 w in
    let b = is_sent r (message_of r (reply_record r (sha256 (reply_bytes r a.p)) a.p)) in
    let same : record_of r c.sha256-id.result z.result.vote ≡ reply_record r (sha256 (reply_bytes r a.p)) a.p =
    reply_record_lem r f a.p p.1.0.here z.result z.ensures.0 c.sha256-id.result ∙ ap (λ (j : Id). reply_record r j a.p) i in
    let t : c.is_sent.result ≡ b = c.is_sent.ensures ∙ ap (λ (h : Held). is_sent r (message_of r h)) same in record {
      given = gives_second b (sent sha256 r a.p (reply_bytes r a.p)) (joins sha256 r a.p) (left c.join.result c.join.new.s) a.reply.now a.reply.now
          (sym t ∙ c.if-not-is_sent.true) (c.join.ensures.given, front_none a.reply.now);
      kept = c.join.ensures.kept;
    }

pub send-requires : goal.send-requires
send-requires c =
    let a = c.args in
    let p = c.requires in
    let r = round_in a.s.now in
    let f = fits_out r p.0.passes.fit in
    let z = c.form_reply-z in
    let now = z.new.buf in
    let i : length c.sha256-id.result ≡ id_len = search rules in
    (record { long = p.0.passes.long; room = p.1.0.room p.1.1; id_bytes = i }, reply_refers r f a.p p.1.0.here z.result z.ensures.0)

pub returns : goal.returns
returns c =
    let a = c.args in
    let p = c.requires in
    let r = round_in a.s.now in
    let f = fits_out r p.0.passes.fit in
    let z = c.form_reply-z in
    let now = z.new.buf in
    let w = reply_front r f a.p p.1.0.here z.result z.ensures.0 (replicate reply_len 0) now z.ensures.1 in
    let i : c.sha256-id.result ≡ sha256 (reply_bytes r a.p) = c.sha256-id.ensures ∙ ap sha256 w in
    let b = is_sent r (message_of r (reply_record r (sha256 (reply_bytes r a.p)) a.p)) in
    let same : record_of r c.sha256-id.result z.result.vote ≡ reply_record r (sha256 (reply_bytes r a.p)) a.p =
    reply_record_lem r f a.p p.1.0.here z.result z.ensures.0 c.sha256-id.result ∙ ap (λ (j : Id). reply_record r j a.p) i in
    let t : c.is_sent.result ≡ b = c.is_sent.ensures ∙ ap (λ (h : Held). is_sent r (message_of r h)) same in record {
      given = gives_first b (sent sha256 r a.p (reply_bytes r a.p)) (joins sha256 r a.p) (left c.send.result c.send.new.s) a.reply.now c.put_all.new.buf
          (sym t ∙ c.if-not-is_sent.false) (
            c.send.ensures.given ∙ (λ k. replies (reply_long r f a.p p.1.0.here z.result z.ensures.0 (replicate reply_len 0) now z.ensures.1 k) (with_recent (hold r (same k) 0) r.held (set (replicate max_held 0) r.held 1))),
            c.put_all.ensures ∙ ap (put_at a.reply.now 0) w ∙ put_front (reply_bytes r a.p) a.reply.now,
          );
      kept = c.send.ensures.kept;
    }
