-- The rows of a proposal in their order, those of an acceptor message that passes 8 to 12, and a message that is refused by a row or entered.
use mathlib.Core.Path.{◌≡◌, refl, subst, sym}
use mathlib.Core.Option.{some, none, Option}
use mathlib.Core.Bool.{Bool, true, false}
use mathlib.Core.List.{List}
use Prim.Native.Nat.{ℕ}
use Rattle.round.specs.Round.{Round}
use Rattle.protocol.specs.Ids.{Id}
use Rattle.message.specs.declared.Proposal.{Proposal}
use Rattle.round.specs.Rows.{first_of, proposal_rows, other_round, is_known_id, full, message_of, previous_id, reference_ids}
use Rattle.base.specs.Tests.{pick}
use Rattle.base.specs.declared.refusal.Refusal.TheVariants.{OtherRound, Known, Full}
use Rattle.base.specs.declared.refusal.Refusal.{Refusal}
use Rattle.protocol.specs.Table.{Held}
use Rattle.round.specs.Delivery.{Delivered, decided_by, entered, acceptor_taken}
use Rattle.answering.specs.Inside.Giving.{refusal, Gives}
use Rattle.answering.proofs.Replying.{front_none}
use Rattle.round.specs.Holdings.{place_of}
use Rattle.message.specs.declared.AcceptorMessage.{AcceptorMessage}
use Rattle.judging.proofs.Voting.{record_read, rows, sounds}
use Rattle.judging.specs.Inside.Turning.{sound_row}

pub proposal_row : (r : Round) (i : Id) (m : Proposal)
    → first_of (proposal_rows r i m) ≡ pick (other_round r m.house m.bay) (some OtherRound) (pick (is_known_id r i) (some Known) (pick (full r i) (some Full) none))
unfolding proposal_rows first_of
proposal_row r i m = refl

-- ---- rows 8, 10 and 16 of a proposal
module _ (a b c : Bool) where
  abbrev pub three : Option Refusal
  three = pick a (some OtherRound) (pick b (some Known) (pick c (some Full) none))

  pub three_other : a ≡ true → three ≡ some OtherRound
  three_other e = simp e

  pub three_known : a ≡ false → b ≡ true → three ≡ some Known
  three_known e f = simp (e, f)

  pub three_full : a ≡ false → b ≡ false → c ≡ true → three ≡ some Full
  three_full e f g = simp (e, f, g)

  pub three_none : a ≡ false → b ≡ false → c ≡ false → three ≡ none
  three_none e f g = simp (e, f, g)

-- ---- refused by the row that applies, or entered
module _ (H : List ℕ → Id) (r : Round) (i : Id) (h : Held) (o : Option Refusal) (x : Delivered) (before : List ℕ) where
  pub taken_refused : (e : Refusal) → o ≡ some e → x ≡ refusal r e → Gives (decided_by H r i h o) x before before
  taken_refused e q p = subst (λ (y : Option Refusal). Gives (decided_by H r i h y) x before before) (sym q) (p, front_none before)

  pub taken_entered : (after : List ℕ) → o ≡ none → Gives (entered H r h (place_of r i)) x before after → Gives (decided_by H r i h o) x before after
  taken_entered after q g = subst (λ (y : Option Refusal). Gives (decided_by H r i h y) x before after) (sym q) g

-- ---- an acceptor message, where rows 8 to 12 are clear: it is taken as rows 14 to 16 decide
pub taken_settled : (H : List ℕ → Id) (r : Round) (i : Id) (b : List ℕ) (m : AcceptorMessage) (h : Held) (x : Delivered) (before after : List ℕ) → h ≡ record_read r i b m → rows r i b m ≡ sounds r i b m
    → Gives (decided_by H r i h (sound_row r i (message_of r h))) x before after → Gives (acceptor_taken H r i m (previous_id b m) (reference_ids b m)) x before after
taken_settled H r i b m h x before after e q g =
    subst (λ (o : Option Refusal). Gives (decided_by H r i (record_read r i b m) o) x before after) (sym q) (subst (λ (y : Held). Gives (decided_by H r i y (sound_row r i (message_of r y))) x before after) e g)
