-- No round turns every message down: a proposal or an acceptor message that no row is about is accepted.
use mathlib.Core.Path.{◌≡◌, refl, sym, ap, subst, ◌∙◌}
use mathlib.Core.Bool.{Bool, true, false, not, ◌&&◌, ◌||◌}
use mathlib.Core.Option.{Option, none, some}
use mathlib.Core.List.{List, [], ◌∷◌}
use Prim.Native.Nat.{ℕ, ◌<◌}
use native.Mathlib.Omega.{arith}
use lib.Dec.{T, eqb, ltb, leb→le, ltb→lt, not_T}
use lib.ListN.{length}
use Rattle.std.specs.Prelude.{Ok, None}
use Rattle.base.specs.Tests.{pick}
use Rattle.base.specs.declared.refusal.Refusal.{Refusal}
use Rattle.base.specs.declared.refusal.Refusal.TheVariants.{Argument}
use Rattle.base.proofs.Tests.{and_in, eq→eqb}
use Rattle.message.specs.Reader.{reading}
use Rattle.message.specs.declared.Proposal.{Proposal}
use Rattle.message.specs.declared.AcceptorMessage.{AcceptorMessage}
use Rattle.protocol.specs.Ids.{Id}
use Rattle.protocol.specs.Message.{Message}
use Rattle.protocol.specs.WellFormed.{formed1b, formed2a}
use Rattle.protocol.specs.Table.{Held, offers}
use Rattle.round.specs.Round.{Round}
use Rattle.round.specs.Limits.{reply_len}
use Rattle.round.specs.Holdings.{graph_of, is_voting, place_of}
use Rattle.round.specs.Handed.{fits}
use Rattle.round.specs.Rows.{reference_ids, previous_id, other_round, foreign, is_known_id, lacks, unchained, vote_record, message_of, room, full, proposal_rows, acceptor_rows, first_of}
use Rattle.round.specs.Reply.{reply_bytes, reply_record, is_sent}
use Rattle.round.specs.Delivery.{Effect, refused, sent, joins, answered, processed, hold, returned, entered, decided_by, taken, delivery}
use Rattle.round.specs.ShutOut.{Handed, ProposalAccepted, VoteAccepted}
use Rattle.round.proofs.OneDelivery.{Kept}
use Rattle.round.proofs.OneCall.{accepted_refused, replied_refused}
use Rattle.round.proofs.Answers.{number_taken}

-- ---- a message that is entered is not refused
kept_pick : (b : Bool) (x y : Effect) → Kept x → Kept y → Kept (pick b x y)
kept_pick true x y f g = f
kept_pick false x y f g = g

module _ (H : List ℕ → Id) where
  processed_kept : (s : Round) (p : ℕ) → Kept (processed H s p)
  unfolding processed
  processed_kept s p =
      let z = reply_bytes s p in
      kept_pick (is_voting s) (answered H s p z) (record { outcome = Ok None; round = s; reply = [] })
      (kept_pick (is_sent s (message_of s (reply_record s (H z) p))) (sent H s p z) (joins H s p) (λ e. replied_refused (length z) e) (λ e. accepted_refused e))
      (λ e. accepted_refused e)

  pub entered_kept : (r : Round) (h : Held) (o : Option ℕ) → Kept (entered H r h o)
  entered_kept r h none = processed_kept (hold r h 1) r.held
  entered_kept r h (some p) = processed_kept (returned r p) p

  decided_kept : (r : Round) (i : Id) (h : Held) (o : Option Refusal) → o ≡ none → Kept (decided_by H r i h o)
  decided_kept r i h o e = subst (λ (x : Option Refusal). Kept (decided_by H r i h x)) (sym e) (entered_kept r h (place_of r i))

  -- past row 17
  pub handed : (r : Round) (b buffer : List ℕ) → Handed r buffer → delivery H r b buffer ≡ taken H r b (reading b)
  unfolding delivery
  handed r b buffer (f, l) = past (fits r) (ltb (length buffer) reply_len) f (not_T (ltb (length buffer) reply_len) (λ t. omega (arith, ltb→lt (length buffer) reply_len t)))
    where
      past : (x y : Bool) → T x → T (not y) → pick (not x || y) (refused r Argument) (taken H r b (reading b)) ≡ taken H r b (reading b)
      past true true f k = absurd k
      past true false f k = refl
      past false y f k = absurd f

-- ---- no row applies
rows_none : (b : Bool) (e : Refusal) (l : List (Bool × Refusal)) → T (not b) → first_of l ≡ none → first_of ((b, e) ∷ l) ≡ none
unfolding first_of
rows_none true e l h k = absurd h
rows_none false e l h k = k

no_rows : first_of [] ≡ none
unfolding first_of
no_rows = refl

not_yes : (b : Bool) → T b → T (not (not b))
not_yes true h = tt
not_yes false h = h

module _ (r : Round) where
  here : (house bay : ℕ) → house ≡ r.house → bay ≡ r.bay → T (not (other_round r house bay))
  here house bay e k = not_yes (eqb house r.house && eqb bay r.bay) (and_in (eqb house r.house) (eqb bay r.bay) (eq→eqb e) (eq→eqb k))

  not_foreign : (signer : ℕ) → signer < r.graph.acceptors → T (not (foreign r signer))
  not_foreign signer l = not_T (foreign r signer) (λ t. omega (arith, leb→le r.graph.acceptors signer t))

  not_full_lem : (i : Id) → r.held < room r i → T (not (full r i))
  not_full_lem i l = not_T (full r i) (λ t. omega (arith, leb→le (room r i) r.held t))

  pub proposal_none : (i : Id) (f : Proposal) → f.house ≡ r.house → f.bay ≡ r.bay → T (not (is_known_id r i)) → r.held < room r i → first_of (proposal_rows r i f) ≡ none
  unfolding proposal_rows
  proposal_none i f house bay unknown free =
      rows_none _ _ _ (here f.house f.bay house bay) (rows_none _ _ _ unknown (rows_none _ _ _ (not_full_lem i free) no_rows))

  vote_none : (i : Id) (f : AcceptorMessage) (o : Option Id) (ids : List Id) (m : Message)
      → f.house ≡ r.house → f.bay ≡ r.bay → f.signer < r.graph.acceptors → T (not (is_known_id r i)) → T (not (lacks r ids)) → T (not (unchained r f.signer ids o))
      → T (formed1b m) → T (formed2a (graph_of r) m) → r.held < room r i → first_of (acceptor_rows r i f o ids m) ≡ none
  unfolding acceptor_rows
  vote_none i f o ids m house bay signer unknown has chains one two free =
      rows_none _ _ _ (here f.house f.bay house bay)
      (rows_none _ _ _ (not_foreign f.signer signer)
      (rows_none _ _ _ unknown
      (rows_none _ _ _ has
      (rows_none _ _ _ chains
      (rows_none _ _ _ (not_yes (formed1b m) one)
      (rows_none _ _ _ (not_yes (formed2a (graph_of r) m) two)
      (rows_none _ _ _ (not_full_lem i free) no_rows)))))))

-- ---- so it is accepted
pub proposal_accepted : ProposalAccepted
proposal_accepted H r b buffer f ok reads house bay unknown free =
    number_taken (delivery H r b buffer).outcome
    (subst Kept (sym (handed H r b buffer ok ∙ ap (taken H r b) reads))
    (decided_kept H r (H b) (offers (H b) f.proposer f.ballot) (first_of (proposal_rows r (H b) f)) (proposal_none r (H b) f house bay unknown free)))

pub vote_accepted : VoteAccepted
vote_accepted H r b buffer f m ok reads house bay signer unknown has chains is one two free =
    let h = vote_record r (H b) f.signer (previous_id b f) (reference_ids b f) in
    number_taken (delivery H r b buffer).outcome
    (subst Kept (sym (handed H r b buffer ok ∙ ap (taken H r b) reads))
    (decided_kept H r (H b) h (first_of (acceptor_rows r (H b) f (previous_id b f) (reference_ids b f) (message_of r h)))
    (vote_none r (H b) f (previous_id b f) (reference_ids b f) (message_of r h) house bay signer unknown has chains
    (subst (λ (x : Message). T (formed1b x)) is one) (subst (λ (x : Message). T (formed2a (graph_of r) x)) is two) free)))
