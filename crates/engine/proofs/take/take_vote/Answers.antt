use mathlib.Core.Path.{◌≡◌, refl, ap, sym, ◌∙◌}
use native.Mathlib.Omega.{arith}
use Rattle.round.specs.Outcomes.{Outcome}
use borrow.Author.Rules.{rules}
use Rattle.std.specs.Prelude.{Err}
use Rattle.judging.proofs.Voting.{stands, record_read, rows, by_head, listed, by_chain, refers, referring, voted, by_rest}
use Rattle.admission.proofs.Finding.{found_inside}
use Rattle.roundbytes.specs.Layout.{round_in}
use Rattle.engine.proofs.Taking.{taken_refused, taken_settled}
use Rattle.digest.specs.Sha256.{sha256}
use Rattle.answering.specs.Inside.Giving.{left}
use Rattle.round.proofs.Fitting.{fits_out}
use Rattle.order.specs.Inside.Rows.{row_of}
use Rattle.round.specs.Rows.{previous_id, reference_ids}
use Rattle.admission.specs.Inside.Votes.{record_of}
use Rattle.engine.proofs.take.take_vote.Goals as goal

pub place_of-found-requires : goal.place_of-found-requires
place_of-found-requires c = (stands c.args.s.now c.requires.0.passes, c.requires.0.id_bytes)

pub head_row-requires : goal.head_row-requires
head_row-requires c =
    let a = c.args in
    (stands a.s.now c.requires.0.passes, found_inside (round_in a.s.now) a.id.now c.place_of-found.result c.place_of-found.ensures)

pub returns-in_err-head_row : goal.returns-in_err-head_row
returns-in_err-head_row c =
    let a = c.args in
    let can = c.requires.0 in
    let s = a.s.now in
    let r = round_in s in
    let i = a.id.now in
    let b = a.bytes.now in
    let found = c.place_of-found.ensures in
    let y = c.head_row in
    let told = y.ensures i found in
    let e = c.in_err-head_row.field-0.0 in
    let d : c.from_residual.result ≡ Err e = search rules in
    record { given = taken_refused sha256 r i (record_read r i b a.m) (rows r i b a.m) (left c.from_residual.result s) a.reply.now e (by_head r i b a.m y.result told e c.in_err-head_row.was) (ap (λ (o : Outcome). left o s) d); kept = (refl, refl) }

pub chain_row-requires : goal.chain_row-requires
chain_row-requires c =
    let a = c.args in
    let p = c.requires in
    (stands a.s.now p.0.passes, listed a.bytes.now a.m p.1)

pub returns-in_err-vote : goal.returns-in_err-vote
returns-in_err-vote c =
    let a = c.args in
    let can = c.requires.0 in
    let s = a.s.now in
    let r = round_in s in
    let i = a.id.now in
    let b = a.bytes.now in
    let found = c.place_of-found.ensures in
    let y = c.head_row in
    let told = y.ensures i found in
    let z = c.chain_row in
    let e = c.in_err-vote.field-0.0 in
    let d : c.from_residual-in_err-vote.result ≡ Err e = search rules in record {
      given = taken_refused sha256 r i (record_read r i b a.m) (rows r i b a.m) (left c.from_residual-in_err-vote.result s) a.reply.now e
          (by_chain r i b a.m y.result told _ c.in_ok-head_row.was z.result z.ensures.ruled e c.in_err-vote.was) (ap (λ (o : Outcome). left o s) d);
      kept = (refl, refl);
    }

pub settle-requires : goal.settle-requires
settle-requires c =
    let a = c.args in
    let can = c.requires.0 in
    let s = a.s.now in
    let r = round_in s in
    let i = a.id.now in
    let b = a.bytes.now in
    let found = c.place_of-found.ensures in
    let y = c.head_row in
    let told = y.ensures i found in
    let z = c.chain_row in
    let t = c.in_ok-vote.was in
    let vote = c.in_ok-vote.vote in
    let reads = c.requires.1 in
    let most = (fits_out r can.passes.fit).most in
    let clear = sym z.ensures.ruled ∙ ap row_of t in
    let count = c.in_ok-vote.ensures.counted in
    let least = refers b a.m reads in
    let few = (listed b a.m reads).most in
    let to = referring r most a.m.signer (previous_id b a.m) (reference_ids b a.m) vote c.in_ok-vote.ensures.resolved clear (omega arith) (omega arith) in
    record { takes = can; found = found; refers = to }

pub returns : goal.returns
returns c =
    let a = c.args in
    let can = c.requires.0 in
    let s = a.s.now in
    let r = round_in s in
    let i = a.id.now in
    let b = a.bytes.now in
    let found = c.place_of-found.ensures in
    let y = c.head_row in
    let told = y.ensures i found in
    let z = c.chain_row in
    let t = c.in_ok-vote.was in
    let vote = c.in_ok-vote.vote in
    let most = (fits_out r can.passes.fit).most in
    let clear = sym z.ensures.ruled ∙ ap row_of t in
    let same = voted r most a.m.signer (previous_id b a.m) (reference_ids b a.m) vote c.in_ok-vote.ensures.resolved clear i in
    let v = c.settle in record {
      given = taken_settled sha256 r i b a.m (record_of r i vote) (left v.result v.new.s) a.reply.now v.new.reply same
          (by_rest r i b a.m y.result told _ c.in_ok-head_row.was z.result z.ensures.ruled vote t) v.ensures.given;
      kept = v.ensures.kept;
    }
