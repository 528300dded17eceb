use borrow.Author.Rules.{rules}
use mathlib.Core.Path.{ap, sym, ◌∙◌, refl, ◌≡◌, subst}
use mathlib.Core.Bool.{not}
use Rattle.round.specs.Outcomes.{Outcome}
use Rattle.std.specs.Prelude.{Ok, Err}
use Rattle.roundbytes.specs.Layout.{round_in}
use Rattle.answering.specs.Inside.Giving.{left, Gives}
use Rattle.base.specs.declared.refusal.Refusal.TheVariants.{Argument}
use Rattle.engine.proofs.Delivering.{told, misfit, short, let_in, unread}
use Rattle.digest.specs.Sha256.{sha256}
use Rattle.protocol.specs.Ids.{Id}
use Rattle.round.specs.Delivery.{proposal_taken, acceptor_taken}
use Rattle.round.specs.Rows.{previous_id, reference_ids}
use Rattle.message.specs.declared.Message.TheVariants.{OfProposer, OfAcceptor}
use Rattle.engine.proofs.deliver_in.Goals as goal

pub returns-then-not-fits : goal.returns-then-not-fits
returns-then-not-fits c =
    let a = c.args in
    let s = a.s.now in
    let r = round_in s in
    let b = a.bytes.now in
    let f = ap not (sym c.fits.ensures) in
    let x = left (Err Argument) s in
    record { given = told sha256 r b a.reply.now x a.reply.now (misfit sha256 r b a.reply.now x (f ∙ (ap not c.if-not-fits.true)) refl); kept = (refl, refl) }

pub returns-then-reply-lt-MAX_LEN : goal.returns-then-reply-lt-MAX_LEN
returns-then-reply-lt-MAX_LEN c =
    let a = c.args in
    let s = a.s.now in
    let r = round_in s in
    let b = a.bytes.now in
    let f = ap not (sym c.fits.ensures) in
    let x = left (Err Argument) s in
    record { given = told sha256 r b a.reply.now x a.reply.now (short sha256 r b a.reply.now x (f ∙ (ap not c.if-not-fits.false)) c.if-reply-lt-MAX_LEN.true refl); kept = (refl, refl) }

pub returns-in_err-message : goal.returns-in_err-message
returns-in_err-message c =
    let a = c.args in
    let s = a.s.now in
    let r = round_in s in
    let b = a.bytes.now in
    let f = ap not (sym c.fits.ensures) in
    let e = c.in_err-message.field-0.0 in
    let d : c.from_residual.result ≡ Err e = search rules in
    let x = left c.from_residual.result s in record {
      given = told sha256 r b a.reply.now x a.reply.now
          (let_in sha256 r b a.reply.now x a.reply.now (Err e) (f ∙ (ap not c.if-not-fits.false)) c.if-reply-lt-MAX_LEN.false (sym c.read.ensures ∙ c.in_err-message.was) (unread sha256 r b a.reply.now x e (ap (λ (o : Outcome). left o s) d)));
      kept = (refl, refl);
    }

pub returns-in-OfProposer : goal.returns-in-OfProposer
returns-in-OfProposer c =
    let a = c.args in
    let s = a.s.now in
    let r = round_in s in
    let b = a.bytes.now in
    let f = ap not (sym c.fits.ensures) in
    let m = c.in-OfProposer.m in
    let v = c.take_proposal in
    let x = left v.result v.new.s in
    let after = v.new.reply in record {
      given = told sha256 r b a.reply.now x after
          (let_in sha256 r b a.reply.now x after (Ok (OfProposer m)) (f ∙ (ap not c.if-not-fits.false)) c.if-reply-lt-MAX_LEN.false (sym c.read.ensures ∙ c.in_ok-message.was ∙ ap Ok c.in-OfProposer.is)
          (subst (λ (i : Id). Gives (proposal_taken sha256 r i m) x a.reply.now after) c.sha256-id.ensures v.ensures.given));
      kept = v.ensures.kept;
    }

pub returns-in-OfAcceptor : goal.returns-in-OfAcceptor
returns-in-OfAcceptor c =
    let a = c.args in
    let s = a.s.now in
    let r = round_in s in
    let b = a.bytes.now in
    let f = ap not (sym c.fits.ensures) in
    let m = c.in-OfAcceptor.m in
    let v = c.take_vote in
    let x = left v.result v.new.s in
    let after = v.new.reply in record {
      given = told sha256 r b a.reply.now x after
          (let_in sha256 r b a.reply.now x after (Ok (OfAcceptor m)) (f ∙ (ap not c.if-not-fits.false)) c.if-reply-lt-MAX_LEN.false (sym c.read.ensures ∙ c.in_ok-message.was ∙ ap Ok c.in-OfAcceptor.is)
          (subst (λ (i : Id). Gives (acceptor_taken sha256 r i m (previous_id b m) (reference_ids b m)) x a.reply.now after) c.sha256-id.ensures v.ensures.given));
      kept = v.ensures.kept;
    }
