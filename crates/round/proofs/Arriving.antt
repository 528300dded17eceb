-- A message to which no row applies: its record, with references that are known and named by their ids, linked and well-formed.
use mathlib.Core.Path.{◌≡◌, refl, sym, ap, subst, ◌∙◌}
use mathlib.Core.Bool.{Bool, not, ◌&&◌}
use mathlib.Core.Option.{Option, none, some}
use mathlib.Core.List.{List, [], ◌∷◌, map}
use Prim.Native.Nat.{ℕ, ◌<◌}
use lib.Dec.{T, eqb, eqb→eq}
use Rattle.std.proofs.Math.Facts.{T_not-not}
use Rattle.base.specs.Tests.{◌∈◌, any, all}
use Rattle.base.proofs.Tests.{and_in, and_l, and_r, any_in, any_out, all_out, map_in, map_out, eq→eqb}
use Rattle.protocol.specs.Ids.{Id, same_id}
use Rattle.protocol.specs.Message.{Message, acceptor, id_of, signer, previous, references, is_proposal, is_acceptor}
use Rattle.protocol.specs.WellFormed.{is_previous, linked, chained}
use Rattle.protocol.specs.Table.{says, gather, node_by, tree}
use Rattle.protocol.proofs.Ids.{same_id_law}
use Rattle.protocol.proofs.Table.{tree_id, tree_signer, tree_proposal, gather_in}
use Rattle.round.specs.Round.{Round}
use Rattle.round.specs.Holdings.{id_at, is_known, is_proposal_at, signer_at, table_of, place_of}
use Rattle.round.specs.Rows.{placed, or_zero, is_known_id, lacks, is_vote_of, unchained}
use Rattle.round.proofs.Named.{place_some}
use Rattle.round.proofs.Order.{ids_of}
use Rattle.round.proofs.Records.{table_id, table_signer, table_offered}
use Rattle.round.proofs.Marking.{PlacedId}

-- ---- tests on the place that an id names
pub placed_out : (f : ℕ → Bool) (o : Option ℕ) → T (placed f o) → (p : ℕ) × (o ≡ some p) × T (f p)
placed_out f none h = absurd h
placed_out f (some p) h = (p, refl, h)

module _ (r : Round) where
  abbrev pub places_of : List Id → List ℕ
  places_of ids = map (λ i. or_zero (place_of r i)) ids

  -- ---- row 11: each reference is the place that its id names, and known
  abbrev pub Refers : ℕ → Type 0
  Refers j = (i : Id) × (place_of r i ≡ some j) × T (is_known r j)

  known_place : (i : Id) → T (is_known_id r i) → (j : ℕ) → j ≡ or_zero (place_of r i) → Refers j
  known_place i h j e =
      let (p, q, k) = placed_out (is_known r) (place_of r i) h in
      let w : p ≡ j = sym (e ∙ ap or_zero q) in
      (i, q ∙ ap some w, subst (λ (x : ℕ). T (is_known r x)) w k)

  pub all_known : (ids : List Id) → T (not (lacks r ids)) → T (all (is_known_id r) ids)
  unfolding lacks
  all_known ids h = T_not-not (all (is_known_id r) ids) h

  pub referred : (ids : List Id) → T (all (is_known_id r) ids) → (j : ℕ) → j ∈ places_of ids → Refers j
  referred ids h j m =
      let (i, k, e) = map_out (λ i. or_zero (place_of r i)) ids m in
      known_place i (all_out (is_known_id r) k h) j e

  -- and the ids at these places are the ids themselves
  back_at : (i : Id) → T (is_known_id r i) → id_at r (or_zero (place_of r i)) ≡ i
  back_at i h =
      let (p, q, k) = placed_out (is_known r) (place_of r i) h in
      ap (λ (o : Option ℕ). id_at r (or_zero o)) q ∙ (place_some r i p q).there

  pub refers_back_lem : (ids : List Id) → T (all (is_known_id r) ids) → ids_of r (places_of ids) ≡ ids
  unfolding all
  refers_back_lem [] h = refl
  refers_back_lem (i ∷ ids) h = λ j. back_at i (and_l (is_known_id r i) (all (is_known_id r) ids) h) j ∷ refers_back_lem ids (and_r (is_known_id r i) (all (is_known_id r) ids) h) j

  -- ---- row 12: the previous message is among the references, no proposal, and of the same signer
  chain_place : (s : ℕ) (ids : List Id) (i : Id) → T (not (unchained r s ids (some i))) → (i ∈ ids) × ((p : ℕ) × (place_of r i ≡ some p) × T (is_vote_of r s p))
  unfolding unchained
  chain_place s ids i h =
      let both = T_not-not (any (same_id i) ids && placed (is_vote_of r s) (place_of r i)) h in
      let (x, m, e) = any_out (same_id i) ids (and_l (any (same_id i) ids) (placed (is_vote_of r s) (place_of r i)) both) in
      (subst (λ (y : Id). y ∈ ids) (sym ((same_id_law i x).0 e)) m, placed_out (is_vote_of r s) (place_of r i) (and_r (any (same_id i) ids) (placed (is_vote_of r s) (place_of r i)) both))

  pub chain_placed : (s : ℕ) (ids : List Id) (o : Option Id) → T (not (unchained r s ids o)) → PlacedId r o
  chain_placed s ids none h = tt
  chain_placed s ids (some i) h = let (m, (p, q, k)) = chain_place s ids i h in record { place = p; is = q; named = place_some r i p q }

  -- the message of a place p with an acceptor message of s
  is_previous_lem : (m : Message) (i : Id) (p : ℕ) → p < r.held → id_at r p ≡ i → T (is_vote_of r (signer m) p) → T (is_previous m i (tree (table_of r) p))
  unfolding is_previous
  is_previous_lem m i p l e v =
      let u = tree (table_of r) p in
      let a : not (is_proposal u) ≡ not (is_proposal_at r p) = ap not (tree_proposal (table_of r) p ∙ table_offered r p l) in
      let b : id_of u ≡ i = tree_id (table_of r) p ∙ table_id r p l ∙ e in
      let c : signer u ≡ signer_at r p = tree_signer (table_of r) p ∙ table_signer r p l in
      let d : signer_at r p ≡ signer m = eqb→eq (signer_at r p) (signer m) (and_r (not (is_proposal_at r p)) (eqb (signer_at r p) (signer m)) v) in
      and_in (is_acceptor u && same_id (id_of u) i) (eqb (signer u) (signer m))
      (and_in (is_acceptor u) (same_id (id_of u) i)
      (subst (λ (x : Bool). T x) (sym a) (and_l (not (is_proposal_at r p)) (eqb (signer_at r p) (signer m)) v))
      ((same_id_law (id_of u) i).1 b))
      (eq→eqb (c ∙ d))

  pub links : (id : Id) (s : ℕ) (o : Option Id) (ids : List Id) → T (not (unchained r s ids o)) → T (chained (node_by (tree (table_of r)) (says id s o (places_of ids))))
  unfolding chained linked node_by previous references signer
  links id s none ids h = tt
  links id s (some i) ids h =
      let (m, (p, q, v)) = chain_place s ids i h in
      let n = place_some r i p q in
      let here : p ∈ places_of ids = subst (λ (x : ℕ). x ∈ places_of ids) (ap or_zero q) (map_in (λ i. or_zero (place_of r i)) m) in
      let node = acceptor id s (some i) (gather (tree (table_of r)) (places_of ids)) in
      any_in (is_previous node i) (gather_in (tree (table_of r)) here) (is_previous_lem node i p n.inside n.there v)
