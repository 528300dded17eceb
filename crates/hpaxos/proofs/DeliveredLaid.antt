-- A delivery of bytes leaves a round as its types have it, which can be laid out as bytes: only a ballot that was read joins the ballots.
use mathlib.Core.Path.{◌≡◌, refl, sym, subst}
use mathlib.Core.Logic.{◌⊎◌, inl, inr, ◌≢◌}
use mathlib.Core.Bool.{Bool, true, false, not, ◌||◌}
use mathlib.Core.Option.{Option, none, some}
use mathlib.Core.List.{List, []}
use Prim.Native.Nat.{ℕ, ◌^◌, ◌<◌}
use native.Mathlib.Omega.{arith}
use lib.Dec.{ltb}
use lib.ListN.{length, get_or}
use Rattle.std.specs.Prelude.{Ok, Err, None}
use Rattle.base.specs.Tests.{pick}
use Rattle.base.specs.Bytes.{Octets}
use Rattle.base.specs.declared.refusal.Refusal.{Refusal}
use Rattle.base.specs.declared.refusal.Refusal.TheVariants.{Argument}
use Rattle.digest.specs.Sha256.{sha256}
use Rattle.graph.specs.declared.Graph.{Graph}
use Rattle.message.specs.Reader.{reading}
use Rattle.round.specs.Outcomes.{Reading}
use Rattle.message.specs.declared.Message.TheVariants.{OfProposer, OfAcceptor}
use Rattle.message.proofs.Checks.{of_proposer}
use Rattle.protocol.specs.Table.{Held, offers, says}
use Rattle.round.specs.Round.{Round}
use Rattle.round.specs.Limits.{reply_len}
use Rattle.round.specs.Holdings.{is_voting, place_of}
use Rattle.round.specs.Handed.{fits}
use Rattle.round.specs.Rows.{reference_ids, previous_id, vote_record, message_of, proposal_rows, acceptor_rows, first_of}
use Rattle.round.specs.Reply.{reply_bytes, reply_record, is_sent}
use Rattle.round.specs.Delivery.{Effect, refused, hold, returned, sent, joins, answered, processed, entered, decided_by, taken, delivery, delivered}
use Rattle.round.specs.Premises.{Typed}
use Rattle.round.proofs.Step.{Same}
use Rattle.round.proofs.Reached.{step_grows}
use Rattle.round.proofs.OneDelivery.{step}
use Rattle.round.proofs.OneCall.{refused_leaves_all_lem}
use Rattle.round.proofs.Lists.{refused_or_not}
use Rattle.round.proofs.Sha256.{sha256_is_id_rule}
use Rattle.roundbytes.specs.Layout.{Laid}
use Rattle.roundbytes.proofs.Typing.{be_below}
use Rattle.hpaxos.proofs.Bounds as bounds

-- ---- ballots of eight bytes
abbrev Ballots : Round → Type 0
Ballots r = bounds.Below (256 ^ 8) (omega arith) r.ballots

abbrev Small : Held → Type 0
Small (offers i s b) = b < 256 ^ 8
Small (says i s p l) = Unit {0}

pick_ballots : (t : Bool) (x y : Effect) → Ballots x.round → Ballots y.round → Ballots (pick t x y).round
pick_ballots true x y h k = h
pick_ballots false x y h k = k

hold_ballots : (r : Round) (h : Held) (known : ℕ) → Small h → Ballots r → Ballots (hold r h known)
unfolding hold
hold_ballots r (offers i s b) known w h = bounds.below_set (256 ^ 8) (omega arith) r.ballots r.held b h w
hold_ballots r (says i s p l) known w h = bounds.below_set (256 ^ 8) (omega arith) r.ballots r.held 0 h (omega arith)

processed_ballots : (r : Round) (p : ℕ) → Ballots r → Ballots (processed sha256 r p).round
unfolding processed
processed_ballots r p h =
    let z = reply_bytes r p in
    pick_ballots (is_voting r) (answered sha256 r p z) (record { outcome = Ok None; round = r; reply = [] })
    (pick_ballots (is_sent r (message_of r (reply_record r (sha256 z) p))) (sent sha256 r p z) (joins sha256 r p) (hold_ballots r (reply_record r (sha256 z) p) 0 tt h) h) h

entered_ballots : (r : Round) (h : Held) (o : Option ℕ) → Small h → Ballots r → Ballots (entered sha256 r h o).round
entered_ballots r h none w k = processed_ballots (hold r h 1) r.held (hold_ballots r h 1 w k)
entered_ballots r h (some p) w k = processed_ballots (returned r p) p k

module _ (r : Round) (h : Ballots r) (b : List ℕ) (bytes : Octets b) where
  decided_ballots : (e : Held) (o : Option Refusal) → Small e → Ballots (decided_by sha256 r (sha256 b) e o).round
  decided_ballots e (some x) w = h
  decided_ballots e none w = entered_ballots r e (place_of r (sha256 b)) w h

  taken_ballots : (x : Reading) → reading b ≡ x → Ballots (taken sha256 r b x).round
  taken_ballots (Err e) q = h
  taken_ballots (Ok (OfProposer m)) q =
      decided_ballots (offers (sha256 b) m.proposer m.ballot) (first_of (proposal_rows r (sha256 b) m))
      (rw (of_proposer b m q).1 (be_below 8 b 9 bytes))
  taken_ballots (Ok (OfAcceptor m)) q =
      let v = vote_record r (sha256 b) m.signer (previous_id b m) (reference_ids b m) in
      decided_ballots v (first_of (acceptor_rows r (sha256 b) m (previous_id b m) (reference_ids b m) (message_of r v))) tt

  delivery_ballots : (buffer : List ℕ) → Ballots (delivery sha256 r b buffer).round
  unfolding delivery
  delivery_ballots buffer = pick_ballots (not (fits r) || ltb (length buffer) reply_len) (refused r Argument) (taken sha256 r b (reading b)) h (taken_ballots (reading b) refl)

-- ---- the rest of a round
laid_after : (r s : Round) → Laid r → Same r s → Typed s → Ballots s → Laid s
laid_after r s l e t h =
    record {
      sized = record {
        list_counts = subst (λ (g : Graph). length g.counts ≡ 44) e.graph l.sized.list_counts;
        masks = subst (λ (g : Graph). length g.masks ≡ 352) e.graph l.sized.masks;
        ids = t.ids_size;
        kinds = t.kinds_size;
        signers = t.signers_size;
        ballots = t.ballots_size;
        previous = t.previous_size;
        counts = t.counts_size;
        references = t.references_size;
        known = t.known_size;
        recent = t.recent_size;
      };
      mask_fits = subst (λ (g : Graph). (i : ℕ) → get_or g.masks i 0 < 256 ^ 4) e.graph l.mask_fits;
      house_fits = t.house_fits;
      bay_fits = t.bay_fits;
      own_fits = subst (λ (x : ℕ). x < 256 ^ 2) e.own l.own_fits;
      ballot_fits = h;
    }

pub delivered_laid : (r : Round) → Laid r → Typed r → (b buffer : List ℕ) → Octets b
    → Laid (delivered sha256 r b buffer).round × Typed (delivered sha256 r b buffer).round
delivered_laid r l t b buffer o = by (refused_or_not (delivery sha256 r b buffer).outcome)
  where
    by : ((e : Refusal) × ((delivery sha256 r b buffer).outcome ≡ Err e)) ⊎ ((e : Refusal) → (delivery sha256 r b buffer).outcome ≢ Err e)
        → Laid (delivered sha256 r b buffer).round × Typed (delivered sha256 r b buffer).round
    by (inl (e, k)) = subst (λ (x : Round). Laid x × Typed x) (sym (refused_leaves_all_lem sha256 r b buffer e k).0) (l, t)
    by (inr k) =
        let d = delivery sha256 r b buffer in
        let s = step sha256 sha256_is_id_rule r t b buffer k in
        (laid_after r d.round l (step_grows s).same s.typed (delivery_ballots r l.ballot_fits b o buffer), s.typed)
