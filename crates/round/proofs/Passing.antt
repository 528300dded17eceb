-- The rows by ascending number, and what has held of a message when no row applied to it.
use mathlib.Core.Path.{◌≡◌, refl}
use mathlib.Core.Bool.{Bool, true, false, not}
use mathlib.Core.Option.{Option, none}
use mathlib.Core.List.{List, ◌∷◌}
use Prim.Native.Nat.{ℕ}
use native.Mathlib.Omega.{arith}
use lib.Dec.{T}
use Rattle.base.specs.declared.refusal.Refusal.{Refusal}
use Rattle.message.specs.declared.Proposal.{Proposal}
use Rattle.message.specs.declared.AcceptorMessage.{AcceptorMessage}
use Rattle.protocol.specs.Ids.{Id}
use Rattle.protocol.specs.Message.{Message}
use Rattle.round.specs.Round.{Round}
use Rattle.round.specs.Rows.{is_known_id, lacks, unchained, malformed1b, full, proposal_rows, acceptor_rows, first_of}
use Rattle.round.specs.Demands.{RowsInOrder}

-- ---- "Checks run in this order: .. then 8 to 16"
pub rows_in_order : RowsInOrder
unfolding proposal_rows acceptor_rows
rows_in_order r i = (λ m. refl, λ m previous ids tree. refl)

-- ---- no row applies: each is false
first_none : (b : Bool) (e : Refusal) (l : List (Bool × Refusal)) → first_of ((b, e) ∷ l) ≡ none → T (not b) × (first_of l ≡ none)
unfolding first_of
first_none true e l h = let z : ◌≡◌ {A = ℕ} 0 1 = cc in absurd (omega arith)
first_none false e l h = (tt, h)

module _ (r : Round) (i : Id) where
  pub record Fresh : Type 0 where
    pub unknown : T (not (is_known_id r i))
    pub not_full : T (not (full r i))

  pub proposal_passed : (m : Proposal) → first_of (proposal_rows r i m) ≡ none → Fresh
  unfolding proposal_rows
  proposal_passed m h =
      let a = first_none _ _ _ h in
      let b = first_none _ _ _ a.1 in
      let c = first_none _ _ _ b.1 in
      record { unknown = b.0; not_full = c.0 }

  pub record Passed (signer : ℕ) (previous : Option Id) (ids : List Id) (tree : Message) : Type 0 where
    pub fresh : Fresh
    pub has : T (not (lacks r ids))
    pub chains : T (not (unchained r signer ids previous))
    pub forms : T (not (malformed1b r tree))

  pub acceptor_passed : (m : AcceptorMessage) (previous : Option Id) (ids : List Id) (tree : Message) → first_of (acceptor_rows r i m previous ids tree) ≡ none → Passed m.signer previous ids tree
  unfolding acceptor_rows
  acceptor_passed m previous ids tree h =
      let a = first_none _ _ _ h in
      let b = first_none _ _ _ a.1 in
      let c = first_none _ _ _ b.1 in
      let d = first_none _ _ _ c.1 in
      let e = first_none _ _ _ d.1 in
      let f = first_none _ _ _ e.1 in
      let g = first_none _ _ _ f.1 in
      let k = first_none _ _ _ g.1 in
      record { fresh = record { unknown = c.0; not_full = k.0 }; has = d.0; chains = e.0; forms = f.0 }
