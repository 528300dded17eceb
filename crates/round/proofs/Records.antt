-- The records of a round's table have the fields that the arrays hold.
use mathlib.Core.Path.{◌≡◌, refl, ap, ◌∙◌}
use mathlib.Core.Bool.{Bool, true, false}
use mathlib.Core.Option.{Option}
use mathlib.Core.List.Memᴰ
use mathlib.Core.List.{List, [], ◌∷◌}
use Prim.Native.Nat.{ℕ, ◌<◌}
use lib.ListN.{get_or}
use Rattle.base.specs.Tests.{◌∈◌, pick}
use Rattle.protocol.specs.Ids.{Id}
use Rattle.protocol.specs.Table.{offers, says, at, held_id, held_signer, offered, ids_at}
use Rattle.protocol.proofs.Growth.{at_tabulate}
use Rattle.round.specs.Round.{Round}
use Rattle.round.specs.Holdings.{id_at, signer_at, is_proposal_at, previous_at, references_at, record_at, table_of}
use Rattle.round.proofs.Order.{ids_of}

module _ (b : Bool) (i : Id) (s x : ℕ) (p : Option Id) (l : List ℕ) where
  picked_id : held_id (pick b (offers i s x) (says i s p l)) ≡ i
  unfolding held_id
  picked_id = elim b as (λ v. held_id (pick v (offers i s x) (says i s p l)) ≡ i) [ true ↦ refl | false ↦ refl ]

  picked_signer : held_signer (pick b (offers i s x) (says i s p l)) ≡ s
  unfolding held_signer
  picked_signer = elim b as (λ v. held_signer (pick v (offers i s x) (says i s p l)) ≡ s) [ true ↦ refl | false ↦ refl ]

  picked_offered : offered (pick b (offers i s x) (says i s p l)) ≡ b
  unfolding offered
  picked_offered = elim b as (λ v. offered (pick v (offers i s x) (says i s p l)) ≡ v) [ true ↦ refl | false ↦ refl ]

module _ (r : Round) where
  pub at_table : (k : ℕ) → k < r.held → at (table_of r) k ≡ record_at r k
  at_table k l = at_tabulate r.held (record_at r) k l

  pub table_id : (k : ℕ) → k < r.held → held_id (at (table_of r) k) ≡ id_at r k
  table_id k l = ap held_id (at_table k l) ∙ picked_id (is_proposal_at r k) (id_at r k) (signer_at r k) (get_or r.ballots k 0) (previous_at r k) (references_at r k)

  pub table_signer : (k : ℕ) → k < r.held → held_signer (at (table_of r) k) ≡ signer_at r k
  table_signer k l = ap held_signer (at_table k l) ∙ picked_signer (is_proposal_at r k) (id_at r k) (signer_at r k) (get_or r.ballots k 0) (previous_at r k) (references_at r k)

  pub table_offered : (k : ℕ) → k < r.held → offered (at (table_of r) k) ≡ is_proposal_at r k
  table_offered k l = ap offered (at_table k l) ∙ picked_offered (is_proposal_at r k) (id_at r k) (signer_at r k) (get_or r.ballots k 0) (previous_at r k) (references_at r k)

  pub table_ids : (l : List ℕ) → ((k : ℕ) → k ∈ l → k < r.held) → ids_at (table_of r) l ≡ ids_of r l
  unfolding ids_at
  table_ids [] h = refl
  table_ids (k ∷ l) h = λ i. table_id k (h k (Memᴰ.head refl)) i ∷ table_ids l (λ j m. h j (Memᴰ.tail m)) i
