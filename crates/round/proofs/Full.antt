-- Row 16: no 16 with fewer held than it names, and nothing accepted into a full round.
use mathlib.Core.Path.{◌≡◌, refl, ap, subst}
use mathlib.Core.Logic.{◌⊎◌, inl, inr, ◌≢◌}
use mathlib.Core.Bool.{Bool, true, false, not, ◌&&◌, ◌||◌}
use mathlib.Core.Option.{Option, none, some}
use mathlib.Core.List.{List, [], ◌∷◌}
use Prim.Native.Nat.{ℕ, ◌+◌, ◌-◌, ◌≤◌}
use native.Mathlib.Omega.{arith}
use lib.Dec.{T, eqb, ltb, leb, leb→le, nleb→lt}
use lib.ListN.{length, get_or}
use Rattle.std.specs.Prelude.{Ok, Err}
use Rattle.base.specs.Tests.{pick}
use Rattle.base.specs.Bytes.{be}
use Rattle.base.specs.Refusals.{number_of}
use Rattle.base.specs.declared.refusal.Refusal.{Refusal}
use Rattle.base.specs.declared.refusal.Refusal.TheVariants.{Length, Version, Range, Order, Full, Argument}
use Rattle.message.specs.Layout as layout
use Rattle.message.specs.Order.{ascending}
use Rattle.message.specs.Reader.{unless, proposal_in, acceptor_in, read_proposal, read_counted, read_marked, read_acceptor, read_kind, reading}
use Rattle.message.specs.declared.Proposal.{Proposal}
use Rattle.message.specs.declared.AcceptorMessage.{AcceptorMessage}
use Rattle.round.specs.Outcomes.{Reading, Outcome}
use Rattle.message.specs.declared.Message.TheVariants.{OfProposer, OfAcceptor}
use Rattle.protocol.specs.Ids.{Id}
use Rattle.protocol.specs.Message.{Message}
use Rattle.protocol.specs.Table.{Held, offers}
use Rattle.round.specs.Round.{Round}
use Rattle.round.specs.Limits.{max_held, acceptor_room, reply_len}
use Rattle.round.specs.Holdings.{is_voting, place_of}
use Rattle.round.specs.Handed.{fits}
use Rattle.round.specs.Rows.{reference_ids, previous_id, is_awaited, vote_record, message_of, room, full, proposal_rows, acceptor_rows, first_of}
use Rattle.round.specs.Delivery.{Effect, refused, decided_by, taken, delivery}
use Rattle.round.specs.ShutOut.{FullOnly, RoomFound}
use Rattle.round.proofs.Passing.{proposal_passed, acceptor_passed}
use Rattle.round.proofs.OneDelivery.{Kept, past_argument}
use Rattle.round.proofs.Admitted.{entered_kept}
use Rattle.round.proofs.Answers.{taken_number, full_number}

-- ---- the reader refuses by 1 to 4 only
unfoldable Early : Reading → Type 0
Early (Ok (OfProposer p)) = Unit {0}
Early (Ok (OfAcceptor m)) = Unit {0}
Early (Err e) = number_of e ≤ 4

early : (t : Bool) (e : Refusal) (x : Reading) → number_of e ≤ 4 → Early x → Early (unless t e x)
unfolding Early
early true e x l h = h
early false e x l h = l

read_early : (m : Proposal) → Early (Ok (OfProposer m))
unfolding Early
read_early m = tt

vote_early : (m : AcceptorMessage) → Early (Ok (OfAcceptor m))
unfolding Early
vote_early m = tt

early_kind : (t : Bool) (x y : Reading) → Early x → Early y → Early (pick t x y)
early_kind true x y f g = f
early_kind false x y f g = g

counted_early : (s : List ℕ) (previous : Bool) (n : ℕ) → Early (read_counted s previous n)
counted_early s previous n =
    early (ltb 0 n) Range _ (omega arith)
    (early (leb n layout.most_references) Range _ (omega arith)
    (early (eqb (length s) (layout.acceptor_len previous n)) Length _ (omega arith)
    (early (ascending (n - 1) s (layout.references_at previous)) Order _ (omega arith) (vote_early (acceptor_in s previous n)))))

marked_early : (s : List ℕ) (previous : Bool) → Early (read_marked s previous)
marked_early s previous = early (ltb (layout.count_at previous) (length s)) Length _ (omega arith) (counted_early s previous (get_or s (layout.count_at previous) 0))

acceptor_early : (s : List ℕ) → Early (read_acceptor s)
acceptor_early s =
    early (ltb layout.marker_at (length s)) Length _ (omega arith)
    (early (leb (get_or s layout.marker_at 0) 1) Range _ (omega arith) (marked_early s (eqb (get_or s layout.marker_at 0) 1)))

kind_early : (s : List ℕ) (kind : ℕ) → Early (read_kind s kind)
kind_early s kind =
    early_kind (eqb kind layout.proposal_kind) (read_proposal s) (unless (eqb kind layout.acceptor_kind) Range (read_acceptor s))
    (early (eqb (length s) layout.proposal_len) Length _ (omega arith) (read_early (proposal_in s)))
    (early (eqb kind layout.acceptor_kind) Range _ (omega arith) (acceptor_early s))

reader_early : (s : List ℕ) → Early (reading s)
reader_early s =
    early (leb layout.outer_len (length s)) Length _ (omega arith)
    (early (eqb (length s) (layout.outer_len + be 2 s 0)) Length _ (omega arith)
    (early (ltb layout.version_at (length s)) Length _ (omega arith)
    (early (eqb (get_or s layout.version_at 0) layout.version) Version _ (omega arith)
    (early (ltb layout.kind_at (length s)) Length _ (omega arith) (kind_early s (get_or s layout.kind_at 0))))))

-- ---- the rows: 16 is the last one
refused_by : (e f : Refusal) → ◌≡◌ {A = Outcome} (Err e) (Err f) → number_of e ≡ number_of f
refused_by e f k = let z : e ≡ f = cc in ap number_of z

some_by : (e f : Refusal) → some e ≡ some f → number_of e ≡ number_of f
some_by e f k = let z : e ≡ f = cc in ap number_of z

-- another row is not the one
skip : (b : Bool) (e : Refusal) (l : List (Bool × Refusal)) → number_of e ≢ 16 → first_of ((b, e) ∷ l) ≡ some Full → first_of l ≡ some Full
unfolding first_of
skip true e l ne k = absurd (ne (some_by e Full k))
skip false e l ne k = k

at_end : (b : Bool) → first_of ((b, Full) ∷ []) ≡ some Full → T b
unfolding first_of
at_end true k = tt
at_end false k = let z : ◌≡◌ {A = ℕ} 0 1 = cc in absurd (omega arith)

module _ (r : Round) (i : Id) where
  proposal_full : (m : Proposal) → first_of (proposal_rows r i m) ≡ some Full → T (full r i)
  unfolding proposal_rows
  proposal_full m k = at_end _ (skip _ _ _ (λ e. absurd (omega arith)) (skip _ _ _ (λ e. absurd (omega arith)) k))

  acceptor_full : (m : AcceptorMessage) (o : Option Id) (ids : List Id) (t : Message) → first_of (acceptor_rows r i m o ids t) ≡ some Full → T (full r i)
  unfolding acceptor_rows
  acceptor_full m o ids t k =
      at_end _ (skip _ _ _ (λ e. absurd (omega arith)) (skip _ _ _ (λ e. absurd (omega arith)) (skip _ _ _ (λ e. absurd (omega arith)) (skip _ _ _ (λ e. absurd (omega arith))
      (skip _ _ _ (λ e. absurd (omega arith)) (skip _ _ _ (λ e. absurd (omega arith)) (skip _ _ _ (λ e. absurd (omega arith)) k)))))))

  -- "128 held; for an acceptor 127, or 128 for its own message returning"
  full_words : T (full r i) → (127 ≤ r.held) × ((T (is_voting r) → ⊥) ⊎ T (is_awaited r i) → 128 ≤ r.held)
  full_words h = words (is_voting r) (is_awaited r i) (leb→le (room r i) r.held h)
    where
      words : (v a : Bool) → pick (v && not a) acceptor_room max_held ≤ r.held → (127 ≤ r.held) × ((T v → ⊥) ⊎ T a → 128 ≤ r.held)
      words true true l = (omega arith, λ w. l)
      words true false l = (omega arith, step)
        where
          step : (Unit {0} → ⊥) ⊎ ⊥ → 128 ≤ r.held
          step (inl f) = absurd (f tt)
          step (inr t) = absurd t
      words false a l = (omega arith, λ w. l)

module _ (H : List ℕ → Id) (r : Round) (b : List ℕ) where
  decided_full : (h : Held) (o : Option Refusal) → (decided_by H r (H b) h o).outcome ≡ Err Full → o ≡ some Full
  decided_full h none k = absurd (entered_kept H r h (place_of r (H b)) Full k)
  decided_full h (some e) k = let z : e ≡ Full = cc in ap some z

  taken_full : (x : Reading) → Early x → (taken H r b x).outcome ≡ Err Full → T (full r (H b))
  unfolding Early
  taken_full (Err e) l k = absurd (omega (arith, refused_by e Full k))
  taken_full (Ok (OfProposer m)) l k = proposal_full r (H b) m (decided_full (offers (H b) m.proposer m.ballot) (first_of (proposal_rows r (H b) m)) k)
  taken_full (Ok (OfAcceptor m)) l k =
      let h = vote_record r (H b) m.signer (previous_id b m) (reference_ids b m) in
      acceptor_full r (H b) m (previous_id b m) (reference_ids b m) (message_of r h)
      (decided_full h (first_of (acceptor_rows r (H b) m (previous_id b m) (reference_ids b m) (message_of r h))) k)

  argument_full : (t : Bool) (d : Effect) → (d.outcome ≡ Err Full → T (full r (H b))) → (pick t (refused r Argument) d).outcome ≡ Err Full → T (full r (H b))
  argument_full true d f k = absurd (omega (arith, refused_by Argument Full k))
  argument_full false d f k = f k

  -- ---- nothing is accepted into a full round
  decided_room : (h : Held) (o : Option Refusal) → (o ≡ none → T (not (full r (H b)))) → Kept (decided_by H r (H b) h o) → T (not (full r (H b)))
  decided_room h none f k = f refl
  decided_room h (some e) f k = absurd (k e refl)

  taken_room : (x : Reading) → Kept (taken H r b x) → T (not (full r (H b)))
  taken_room (Err e) k = absurd (k e refl)
  taken_room (Ok (OfProposer m)) k = decided_room (offers (H b) m.proposer m.ballot) (first_of (proposal_rows r (H b) m)) (λ e. (proposal_passed r (H b) m e).not_full) k
  taken_room (Ok (OfAcceptor m)) k =
      let h = vote_record r (H b) m.signer (previous_id b m) (reference_ids b m) in
      decided_room h (first_of (acceptor_rows r (H b) m (previous_id b m) (reference_ids b m) (message_of r h)))
      (λ e. (acceptor_passed r (H b) m (previous_id b m) (reference_ids b m) (message_of r h) e).fresh.not_full) k

pub full_only : FullOnly
unfolding delivery
full_only H r b buffer k =
    full_words r (H b) (argument_full H r b (not (fits r) || ltb (length buffer) reply_len) (taken H r b (reading b)) (taken_full H r b (reading b) (reader_early b)) (full_number (delivery H r b buffer).outcome k))

pub room_found : RoomFound
unfolding delivery
room_found H r b buffer taken' =
    let k : Kept (delivery H r b buffer) = taken_number (delivery H r b buffer).outcome taken' in
    let (f, e) = past_argument r (fits r) (ltb (length buffer) reply_len) (taken H r b (reading b)) k in
    nleb→lt (room r (H b)) r.held (taken_room H r b (reading b) (subst Kept e k))
