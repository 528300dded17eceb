use mathlib.Core.Path.{◌∙◌, sym, refl, ap, ◌≡◌, subst}
use mathlib.Core.Bool.{false, Bool, not}
use lib.Dec.{T}
use native.Mathlib.Omega.{arith}
use Rattle.std.specs.Prelude.{Err}
use Rattle.roundbytes.specs.Layout.{round_in}
use Rattle.protocol.specs.Table.{offers}
use Rattle.round.specs.Rows.{first_of, proposal_rows, other_round, is_known_id, full, placed}
use Rattle.engine.proofs.Taking.{taken_refused, proposal_row, three_other, three_known, three_full, taken_entered, three_none}
use Rattle.digest.specs.Sha256.{sha256}
use Rattle.answering.specs.Inside.Giving.{left}
use Rattle.base.specs.declared.refusal.Refusal.TheVariants.{OtherRound, Known, Full}
use Rattle.judging.proofs.Voting.{stands}
use Rattle.admission.proofs.Finding.{found_inside}
use Rattle.round.specs.Holdings.{is_known}
use Rattle.engine.specs.Inside.Entering.{Enterable}
use Rattle.base.specs.Bytes.{Octets}
use Rattle.engine.proofs.Entering.{proposal_storable, answerable, entered_gives}
use Rattle.answering.proofs.Replying.{kept_on}
use Rattle.engine.proofs.take.take_proposal.Goals as goal

pub returns-then-of_another : goal.returns-then-of_another
returns-then-of_another c =
    let a = c.args in
    let can = c.requires in
    let s = a.s.now in
    let r = round_in s in
    let i = a.id.now in
    let h = offers i a.m.proposer a.m.ballot in
    let rows = first_of (proposal_rows r i a.m) in
    let o = other_round r a.m.house a.m.bay in
    let k = is_known_id r i in
    let f = full r i in
    record { given = taken_refused sha256 r i h rows (left (Err OtherRound) s) a.reply.now OtherRound (proposal_row r i a.m ∙ three_other o k f (sym c.of_another.ensures ∙ c.if-of_another.true)) refl; kept = (refl, refl) }

pub place_of-found-requires : goal.place_of-found-requires
place_of-found-requires c = (stands c.args.s.now c.requires.passes, c.requires.id_bytes)

pub is_known-requires : goal.is_known-requires
is_known-requires c =
    let a = c.args in
    (stands a.s.now c.requires.passes, found_inside (round_in a.s.now) a.id.now c.place_of-found.result c.place_of-found.ensures)

pub returns-then-is_known : goal.returns-then-is_known
returns-then-is_known c =
    let a = c.args in
    let can = c.requires in
    let s = a.s.now in
    let r = round_in s in
    let i = a.id.now in
    let h = offers i a.m.proposer a.m.ballot in
    let rows = first_of (proposal_rows r i a.m) in
    let o = other_round r a.m.house a.m.bay in
    let k = is_known_id r i in
    let f = full r i in
    let known = c.is_known.ensures ∙ ap (placed (is_known r)) c.place_of-found.ensures in
    record { given = taken_refused sha256 r i h rows (left (Err Known) s) a.reply.now Known (proposal_row r i a.m ∙ three_known o k f (sym c.of_another.ensures ∙ c.if-of_another.false) (sym known ∙ c.if-is_known.true)) refl; kept = (refl, refl) }

pub lacks_room-requires : goal.lacks_room-requires
lacks_room-requires c =
    let a = c.args in
    (stands a.s.now c.requires.passes, found_inside (round_in a.s.now) a.id.now c.place_of-found.result c.place_of-found.ensures)

pub returns-then-lacks_room : goal.returns-then-lacks_room
returns-then-lacks_room c =
    let a = c.args in
    let can = c.requires in
    let s = a.s.now in
    let r = round_in s in
    let i = a.id.now in
    let h = offers i a.m.proposer a.m.ballot in
    let rows = first_of (proposal_rows r i a.m) in
    let o = other_round r a.m.house a.m.bay in
    let k = is_known_id r i in
    let f = full r i in
    let known = c.is_known.ensures ∙ ap (placed (is_known r)) c.place_of-found.ensures in record {
      given = taken_refused sha256 r i h rows (left (Err Full) s) a.reply.now Full
          (proposal_row r i a.m ∙ three_full o k f (sym c.of_another.ensures ∙ c.if-of_another.false) (sym known ∙ c.if-is_known.false) (sym (c.lacks_room.ensures i c.place_of-found.ensures) ∙ c.if-lacks_room.true)) refl;
      kept = (refl, refl);
    }

pub process_offer-requires : goal.process_offer-requires
process_offer-requires c =
    let a = c.args in
    let can = c.requires in
    let s = a.s.now in
    let r = round_in s in
    let i = a.id.now in
    let h = offers i a.m.proposer a.m.ballot in
    let rows = first_of (proposal_rows r i a.m) in
    let o = other_round r a.m.house a.m.bay in
    let k = is_known_id r i in
    let f = full r i in
    let found = c.place_of-found.ensures in
    let free : f ≡ false = sym (c.lacks_room.ensures i found) ∙ c.if-lacks_room.false in
    let may : Enterable s i c.place_of-found.result = record { passes = can.passes; id_bytes = can.id_bytes; found = found; free = subst (λ (t : Bool). T (not t)) (sym free) tt } in
    let octets : Octets s = λ j. omega (arith, c.slice_known-1.given j) in
    let store = proposal_storable r i a.m.proposer a.m.ballot can.id_bytes (λ j. omega (arith, c.type_inv.id j)) in
    let e = c.enter_proposal-p in
    answerable s octets i c.place_of-found.result may h store e.new.s e.result e.ensures a.reply.now can.long

pub returns : goal.returns
returns c =
    let a = c.args in
    let can = c.requires in
    let s = a.s.now in
    let r = round_in s in
    let i = a.id.now in
    let h = offers i a.m.proposer a.m.ballot in
    let rows = first_of (proposal_rows r i a.m) in
    let o = other_round r a.m.house a.m.bay in
    let k = is_known_id r i in
    let f = full r i in
    let found = c.place_of-found.ensures in
    let free : f ≡ false = sym (c.lacks_room.ensures i found) ∙ c.if-lacks_room.false in
    let may : Enterable s i c.place_of-found.result = record { passes = can.passes; id_bytes = can.id_bytes; found = found; free = subst (λ (t : Bool). T (not t)) (sym free) tt } in
    let octets : Octets s = λ j. omega (arith, c.slice_known-1.given j) in
    let store = proposal_storable r i a.m.proposer a.m.ballot can.id_bytes (λ j. omega (arith, c.type_inv.id j)) in
    let e = c.enter_proposal-p in
    let x = c.process_offer in
    let known = c.is_known.ensures ∙ ap (placed (is_known r)) found in record {
      given = taken_entered sha256 r i h rows (left x.result x.new.s) a.reply.now x.new.reply (proposal_row r i a.m ∙ three_none o k f (sym c.of_another.ensures ∙ c.if-of_another.false) (sym known ∙ c.if-is_known.false) free)
          (entered_gives s octets i c.place_of-found.result may h store e.new.s e.result e.ensures sha256 (left x.result x.new.s) a.reply.now x.new.reply x.ensures.given);
      kept = kept_on s e.new.s x.new.s e.ensures.kept x.ensures.kept;
    }
