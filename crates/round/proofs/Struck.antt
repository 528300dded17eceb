-- Row 13, which was struck, applied to no message that came as far as it. In a round that passes row 17 a proposal lies beneath every held place, by induction
-- on places; an acceptor message that was read has a reference, and one that is known is to a held place.
use mathlib.Core.Path.{◌≡◌, refl, sym, subst, ◌∙◌}
use mathlib.Core.Logic.{◌⊎◌, inl, inr}
use mathlib.Core.Bool.{Bool, true, false, not}
use mathlib.Core.Option.{Option, map}
use mathlib.Core.List.Memᴰ
use mathlib.Core.List.{List, [], ◌∷◌}
use Prim.Native.Nat.{ℕ, zero, suc, ◌<◌}
use native.Mathlib.Omega.{arith}
use lib.Dec.{T}
use Rattle.base.specs.Tests.{◌∈◌}
use Rattle.base.specs.Refusals.{number_of}
use Rattle.base.specs.declared.refusal.Refusal.{Refusal}
use Rattle.base.proofs.Tests.{any_in, dec_T, map_in}
use Rattle.message.proofs.Checks.{of_acceptor}
use Rattle.protocol.specs.Ids.{Id}
use Rattle.protocol.specs.Message.{references, is_proposal}
use Rattle.protocol.specs.Table.{Table, says, at, offered, Ordered, node_by, tree, reach}
use Rattle.protocol.proofs.Message.{tran_law}
use Rattle.protocol.proofs.Table.{tree_proposal, reach_self, reach_step, tran_places, gather_in}
use Rattle.round.specs.Round.{Round}
use Rattle.round.specs.Holdings.{is_proposal_at, table_of, place_of}
use Rattle.round.specs.Rows.{ids_from, reference_ids, previous_id, or_zero, acceptor_rows, first_of}
use Rattle.round.specs.Premises.{Typed}
use Rattle.round.specs.FaultPage.{grounded, arriving, AlwaysGrounded, former_rows, first_number, SameAcceptances}
use Rattle.round.proofs.Named.{place_some}
use Rattle.round.proofs.Fitting.{Fitting, fits_out}
use Rattle.round.proofs.Records.{table_offered}
use Rattle.round.proofs.Tables.{ordered_table, refers}
use Rattle.round.proofs.Arriving.{all_known, places_of, referred}

-- ---- beneath every held place
module _ (r : Round) (typed : Typed r) (fit : Fitting r) where
  abbrev t : Table
  t = table_of r

  ordered : Ordered t
  ordered = ordered_table r fit

  -- the place reaches one that holds a proposal
  abbrev Reaches : ℕ → Type 0
  Reaches p = (q : ℕ) × T (reach t p q) × T (offered (at t q))

  reaches : (n p : ℕ) → p < n → p < r.held → Reaches p
  reaches zero p b l = absurd (omega arith)
  reaches (suc n) p b l = step (λ j c k. reaches n j c k) (dec_T (is_proposal_at r p))
    where
      step : ((j : ℕ) → j < n → j < r.held → Reaches j) → T (is_proposal_at r p) ⊎ T (not (is_proposal_at r p)) → Reaches p
      step f (inl k) = (p, reach_self t ordered p, subst T (sym (table_offered r p l)) k)
      step f (inr k) =
          let (j, m) = refers r typed fit p l k in
          let e : j < p = ordered p j m in
          let (q, c, o) = f j (omega arith) (omega arith) in
          (q, reach_step t ordered p j q m c, o)

  -- so a message that refers to a held place has one in its Tran
  node_grounded : (i : Id) (s : ℕ) (o : Option Id) (l : List ℕ) (j : ℕ) → j ∈ l → j < r.held → T (grounded (node_by (tree t) (says i s o l)))
  unfolding node_by references
  node_grounded i s o l j m k =
      let node = node_by (tree t) (says i s o l) in
      let (q, c, p) = reaches (suc j) j (omega arith) k in
      any_in is_proposal ((tran_law node (tree t q)).1 (inr (tree t j, gather_in (tree t) m, (tran_places t ordered j (tree t q)).1 (q, c, refl))))
      (subst T (sym (tree_proposal t q)) p)

-- ---- the message that was read
some_id : (n : ℕ) (b : List ℕ) (at : ℕ) → 0 < n → (i : Id) × (i ∈ ids_from n b at)
unfolding ids_from
some_id zero b at h = absurd (omega arith)
some_id (suc n) b at h = (_, Memᴰ.head refl)

-- A PROPOSAL ALWAYS LIES BENEATH
pub always_grounded : AlwaysGrounded
always_grounded H r typed ok b f reads has =
    let ids = reference_ids b f in
    let (i, m) = some_id f.count b _ (of_acceptor b f reads).0.counted.some in
    let j = or_zero (place_of r i) in
    let here : j ∈ places_of r ids = map_in (λ i. or_zero (place_of r i)) m in
    let (i', e, _) = referred r ids (all_known r ids has) j here in
    node_grounded r typed (fits_out r ok) (H b) f.signer (previous_id b f) (places_of r ids) j here (place_some r i' j e).inside

-- ---- the rows
-- one row in front of both lists, which are read only where it does not apply
row_same : (b : Bool) (e : Refusal) (l : List (Bool × ℕ)) (k : List (Bool × Refusal)) → (T (not b) → first_number l ≡ map number_of (first_of k))
    → first_number ((b, number_of e) ∷ l) ≡ map number_of (first_of ((b, e) ∷ k))
unfolding first_number first_of
row_same true e l k h = refl
row_same false e l k h = h tt

rows_end : first_number [] ≡ map number_of (first_of [])
unfolding first_number first_of
rows_end = refl

-- a row that does not apply
row_out : (b : Bool) (n : ℕ) (l : List (Bool × ℕ)) → T b → first_number ((not b, n) ∷ l) ≡ first_number l
unfolding first_number
row_out true n l h = refl
row_out false n l h = absurd h

-- GROWERS SEE THE SAME ACCEPTANCES AS BEFORE
pub same_acceptances : SameAcceptances
unfolding former_rows acceptor_rows
same_acceptances H r typed ok b f reads =
    row_same _ _ _ _ (λ _. row_same _ _ _ _ (λ _. row_same _ _ _ _ (λ _. row_same _ _ _ _ (λ has. row_same _ _ _ _ (λ _.
    row_out (grounded (arriving H r b f)) _ _ (always_grounded H r typed ok b f reads has)
    ∙ row_same _ _ _ _ (λ _. row_same _ _ _ _ (λ _. row_same _ _ _ _ (λ _. rows_end))))))))
