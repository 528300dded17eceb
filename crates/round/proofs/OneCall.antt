-- Demand 1 on each delivery: a refusal leaves all, a reply fills the front of the buffer, and no message alters another round.
use mathlib.Core.Path.{◌≡◌, refl, sym, ap, subst, ◌∙◌}
use mathlib.Core.Logic.{◌⊎◌, inl, inr, ◌≢◌}
use mathlib.Core.Bool.{Bool, true, false, not, ◌&&◌, ◌||◌}
use mathlib.Core.Option.{Option, none, some}
use mathlib.Core.List.{List, [], ◌∷◌}
use Prim.Native.Nat.{ℕ}
use native.Mathlib.Omega.{arith}
use lib.Dec.{T, eqb, ltb, eqb→eq, not_T}
use Rattle.std.specs.Prelude.{Ok, Err, Some, None}
use Rattle.round.proofs.Joined.{is_true}
use lib.ListN.{length, take, drop}
use lib.Seq.{take-append_seam, drop-append_seam}
use Rattle.base.specs.Tests.{pick}
use Rattle.base.proofs.Tests.{and_l, and_r}
use Rattle.base.specs.declared.refusal.Refusal.{Refusal}
use Rattle.base.specs.declared.refusal.Refusal.TheVariants.{OtherRound, Argument}
use Rattle.message.specs.Reader.{reading}
use Rattle.message.specs.Writer.{fronted}
use Rattle.message.specs.declared.Proposal.{Proposal}
use Rattle.message.specs.declared.AcceptorMessage.{AcceptorMessage}
use Rattle.round.specs.Outcomes.{Reading, Outcome}
use Rattle.message.specs.declared.Message.TheVariants.{OfProposer, OfAcceptor}
use Rattle.protocol.specs.Ids.{Id}
use Rattle.protocol.specs.Table.{Held, offers}
use Rattle.round.specs.Round.{Round}
use Rattle.round.specs.Limits.{reply_len}
use Rattle.round.specs.Holdings.{is_voting, place_of}
use Rattle.round.specs.Handed.{fits}
use Rattle.round.specs.Rows.{other_round, reference_ids, previous_id, vote_record, message_of, proposal_rows, acceptor_rows, first_of}
use Rattle.round.specs.Reply.{reply_bytes, reply_record, is_sent}
use Rattle.round.specs.Delivery.{Effect, refused, sent, joins, answered, processed, hold, returned, entered, decided_by, taken, delivery, delivered, replied}
use Rattle.round.specs.Premises.{IdRule, Typed}
use Rattle.round.specs.Demands.{AddressedTo, RefusedLeavesAll, ReplyInFront, OtherRoundRefused, ReplySays, ReplyReadsBack}
use Rattle.round.specs.Answers.{outcome_number}
use Rattle.round.proofs.Answers.{refused_number, silent_number, replied_number}
use Rattle.round.proofs.OneDelivery.{Kept, tells}

-- ---- what each answer says of the round and of the reply
pub record Shape (r : Round) (d : Effect) : Type 0 where
  pub refused : (e : Refusal) → d.outcome ≡ Err e → (d.round ≡ r) × (d.reply ≡ [])
  pub accepted : d.outcome ≡ Ok None → d.reply ≡ []
  pub replied : (n : ℕ) → d.outcome ≡ Ok (Some n) → length d.reply ≡ n

pub accepted_refused : (e : Refusal) → ◌≢◌ {A = Outcome} (Ok None) (Err e)
accepted_refused e k = let z : ◌≡◌ {A = ℕ} 0 1 = cc in omega arith

pub accepted_replied : (n : ℕ) → ◌≢◌ {A = Outcome} (Ok None) (Ok (Some n))
accepted_replied n k = let z : ◌≡◌ {A = ℕ} 0 1 = cc in omega arith

pub replied_refused : (n : ℕ) (e : Refusal) → ◌≢◌ {A = Outcome} (Ok (Some n)) (Err e)
replied_refused n e k = let z : ◌≡◌ {A = ℕ} 0 1 = cc in omega arith

replied_one : (m n : ℕ) → ◌≡◌ {A = Outcome} (Ok (Some m)) (Ok (Some n)) → m ≡ n
replied_one m n k = cc

module _ (r : Round) where
  shape_refused : (e : Refusal) → Shape r (refused r e)
  shape_refused e = record { refused = λ e k. (refl, refl); accepted = λ k. refl; replied = λ n k. absurd (replied_refused n e (sym k)) }

  shape_accepted : (s : Round) → Shape r (record { outcome = Ok None; round = s; reply = [] })
  shape_accepted s = record { refused = λ e k. absurd (accepted_refused e k); accepted = λ k. refl; replied = λ n k. absurd (accepted_replied n k) }

  shape_pick : (b : Bool) (x y : Effect) → Shape r x → Shape r y → Shape r (pick b x y)
  shape_pick true x y f g = f
  shape_pick false x y f g = g

  module _ (H : List ℕ → Id) where
    shape_sent : (s : Round) (p : ℕ) (z : List ℕ) → Shape r (sent H s p z)
    shape_sent s p z =
        record {
          refused = λ e k. absurd (replied_refused (length z) e k);
          accepted = λ k. absurd (accepted_replied (length z) (sym k));
          replied = λ n k. replied_one (length z) n k;
        }

    shape_processed : (s : Round) (p : ℕ) → Shape r (processed H s p)
    unfolding processed
    shape_processed s p =
        let z = reply_bytes s p in
        shape_pick (is_voting s) (answered H s p z) (record { outcome = Ok None; round = s; reply = [] })
        (shape_pick (is_sent s (message_of s (reply_record s (H z) p))) (sent H s p z) (joins H s p) (shape_sent s p z) (shape_accepted (joins H s p).round))
        (shape_accepted s)

    shape_entered : (h : Held) (o : Option ℕ) → Shape r (entered H r h o)
    shape_entered h none = shape_processed (hold r h 1) r.held
    shape_entered h (some p) = shape_processed (returned r p) p

    shape_decided : (i : Id) (h : Held) (o : Option Refusal) → Shape r (decided_by H r i h o)
    shape_decided i h (some e) = shape_refused e
    shape_decided i h none = shape_entered h (place_of r i)

    shape_taken : (b : List ℕ) (x : Reading) → Shape r (taken H r b x)
    shape_taken b (Err e) = shape_refused e
    shape_taken b (Ok (OfProposer m)) = shape_decided (H b) (offers (H b) m.proposer m.ballot) (first_of (proposal_rows r (H b) m))
    shape_taken b (Ok (OfAcceptor m)) =
        let h = vote_record r (H b) m.signer (previous_id b m) (reference_ids b m) in
        shape_decided (H b) h (first_of (acceptor_rows r (H b) m (previous_id b m) (reference_ids b m) (message_of r h)))

    pub shape : (b buffer : List ℕ) → Shape r (delivery H r b buffer)
    unfolding delivery
    shape b buffer = shape_pick (not (fits r) || ltb (length buffer) reply_len) (refused r Argument) (taken H r b (reading b)) (shape_refused Argument) (shape_taken b (reading b))

-- ---- "Nothing refused alters a round or a reply buffer."
pub refused_leaves_all_lem : (H : List ℕ → Id) (r : Round) (b buffer : List ℕ) (e : Refusal) → (delivered H r b buffer).outcome ≡ Err e
    → ((delivered H r b buffer).round ≡ r) × (replied H r b buffer ≡ buffer)
refused_leaves_all_lem H r b buffer e k =
    let (x, y) = (shape r H b buffer).refused e k in
    (x, ap (λ (z : List ℕ). fronted z buffer) y)

pub refused_leaves_all : RefusedLeavesAll
refused_leaves_all H r b buffer h = let (e, k) = refused_number (delivered H r b buffer).outcome h in refused_leaves_all_lem H r b buffer e k

-- ---- "The reply fills the front of the buffer; bytes behind it keep their values, as do all bytes where there is no reply."
pub reply_in_front : ReplyInFront
reply_in_front H r b buffer = (
  λ k. ap (λ (z : List ℕ). fronted z buffer) ((shape r H b buffer).accepted (silent_number (delivered H r b buffer).outcome k)),
  λ n k. subst (λ (m : ℕ). drop m (replied H r b buffer) ≡ drop m buffer) ((shape r H b buffer).replied n (replied_number (delivered H r b buffer).outcome n k))
      (drop-append_seam (delivery H r b buffer).reply (drop (length (delivery H r b buffer).reply) buffer)),
)

-- ---- "No message alters a round of another house or bay"
module _ (r : Round) (house bay : ℕ) (other : (house ≡ r.house) × (bay ≡ r.bay) → ⊥) where
  is_other : other_round r house bay ≡ true
  is_other = is_true (other_round r house bay) (not_T (eqb house r.house && eqb bay r.bay) both)
    where
      both : T (eqb house r.house && eqb bay r.bay) → ⊥
      both t = other (eqb→eq house r.house (and_l (eqb house r.house) (eqb bay r.bay) t), eqb→eq bay r.bay (and_r (eqb house r.house) (eqb bay r.bay) t))

  first_other : (l : List (Bool × Refusal)) → first_of ((other_round r house bay, OtherRound) ∷ l) ≡ some OtherRound
  unfolding first_of
  first_other l = λ i. pick (is_other i) (some OtherRound) (first_of l)

module _ (H : List ℕ → Id) (r : Round) (b : List ℕ) where
  proposal_other : (f : Proposal) → ((f.house ≡ r.house) × (f.bay ≡ r.bay) → ⊥) → (taken H r b (Ok (OfProposer f))).outcome ≡ Err OtherRound
  unfolding proposal_rows
  proposal_other f other =
      ap (λ (o : Option Refusal). (decided_by H r (H b) (offers (H b) f.proposer f.ballot) o).outcome)
      (first_other r f.house f.bay other _)

  acceptor_other : (f : AcceptorMessage) → ((f.house ≡ r.house) × (f.bay ≡ r.bay) → ⊥) → (taken H r b (Ok (OfAcceptor f))).outcome ≡ Err OtherRound
  unfolding acceptor_rows
  acceptor_other f other =
      ap (λ (o : Option Refusal). (decided_by H r (H b) (vote_record r (H b) f.signer (previous_id b f) (reference_ids b f)) o).outcome)
      (first_other r f.house f.bay other _)

  addressed_other : (house bay : ℕ) → AddressedTo b house bay → ((house ≡ r.house) × (bay ≡ r.bay) → ⊥) → (taken H r b (reading b)).outcome ≡ Err OtherRound
  addressed_other house bay (inl (f, e, h, k)) other = ap (λ (x : Reading). (taken H r b x).outcome) e ∙ proposal_other f (λ (p, q). other (sym h ∙ p, sym k ∙ q))
  addressed_other house bay (inr (f, e, h, k)) other = ap (λ (x : Reading). (taken H r b x).outcome) e ∙ acceptor_other f (λ (p, q). other (sym h ∙ p, sym k ∙ q))

pick_other : (r : Round) (t : Bool) (d : Effect) → d.outcome ≡ Err OtherRound
    → (outcome_number (pick t (refused r Argument) d).outcome ≡ 8) ⊎ (outcome_number (pick t (refused r Argument) d).outcome ≡ 17)
pick_other r true d e = inr refl
pick_other r false d e = inl (ap outcome_number e)

pub other_round_refused : OtherRoundRefused
unfolding delivery
other_round_refused H r b buffer house bay to other =
    pick_other r (not (fits r) || ltb (length buffer) reply_len) (taken H r b (reading b)) (addressed_other H r b house bay to other)

-- ---- "Messages written read back to the same fields"
pub reply_reads_back_lem : (H : List ℕ → Id) → IdRule H → (r : Round) → Typed r → (b buffer : List ℕ) (n : ℕ)
    → (delivered H r b buffer).outcome ≡ Ok (Some n) → ReplySays r (H b) (take n (replied H r b buffer))
reply_reads_back_lem H rule r typed b buffer n k =
    let d = delivery H r b buffer in
    let kept : Kept d = λ e q. replied_refused n e (sym k ∙ q) in
    let said = (tells H rule r typed b buffer kept).speaks n k in
    let front : take n (replied H r b buffer) ≡ d.reply =
    subst (λ (m : ℕ). take m (replied H r b buffer) ≡ d.reply) ((shape r H b buffer).replied n k) (take-append_seam d.reply (drop (length d.reply) buffer)) in
    subst (ReplySays r (H b)) (sym front) said

pub reply_reads_back : ReplyReadsBack
reply_reads_back H rule r typed b buffer n k = reply_reads_back_lem H rule r typed b buffer n (replied_number (delivered H r b buffer).outcome n k)
