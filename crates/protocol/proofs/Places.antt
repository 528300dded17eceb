-- The definitions at a place, as equations over the records and over what is worked out for earlier places: 1b, 2a, ballot, Caught, the
-- chain property and well-formed 1bs. A loop may run over the places below any n that is large enough.
use mathlib.Core.Path.{◌≡◌, refl, ap, ◌∙◌}
use mathlib.Core.Bool.{Bool, not, ◌&&◌, ◌||◌}
use mathlib.Core.List.{List, [], ◌∷◌, ◌++◌}
use Prim.Native.Nat.{ℕ, ◌≤◌, ◌<◌, max}
use native.Mathlib.Omega.{arith}
use lib.Dec.{T, eqb}
use Rattle.base.specs.Tests.{any, all, below}
use Rattle.base.proofs.Tests.{any_filter, or_l}
use Rattle.protocol.specs.Ids.{same_id, same_previous}
use Rattle.protocol.specs.Message.{Message, listed, id_of, signer, references, is_proposal, proposed, is1b, is2a, signers, tran, trans, largest, ballot, forks, caught_in, caught}
use Rattle.protocol.specs.WellFormed.{alone, formed1b}
use Rattle.protocol.specs.Table.{Held, offers, says, Table, at, held_id, held_signer, held_previous, offered, places, Ordered, gather, node_by, tree, reach}
use Rattle.protocol.specs.Inside.Places.{is1b_at, is2a_at, ballot_at, caught_at, formed1b_at}
use Rattle.protocol.proofs.Ids.{same_id_law}
use Rattle.protocol.proofs.Table.{tree_is, tree_id, tree_signer, tree_previous, tree_proposal}
use Rattle.protocol.proofs.Loops.{any_tran, all_beneath}

-- ---- a test over the references
any_gather : (g : Message → Bool) (f : ℕ → Message) (r : List ℕ) → any g (listed (gather f r)) ≡ any (λ k. g (f k)) r
unfolding any gather listed
any_gather g f [] = refl
any_gather g f (k ∷ r) = ap (λ (b : Bool). g (f k) || b) (any_gather g f r)

any_node : (g : Message → Bool) (f : ℕ → Message) (r : Held) → any g (references (node_by f r)) ≡ any (λ k. g (f k)) (places r)
unfolding any references node_by places
any_node g f (offers i s b) = refl
any_node g f (says i s p r) = any_gather g f r

pub any_references : (t : Table) → Ordered t → (i : ℕ) (g : Message → Bool) → any g (references (tree t i)) ≡ any (λ k. g (tree t k)) (places (at t i))
any_references t ord i g = ap (λ (m : Message). any g (references m)) (tree_is t ord i) ∙ any_node g (tree t) (at t i)

node_1b : (f : ℕ → Message) (r : Held) → is1b (node_by f r) ≡ (not (offered r) && any (λ k. is_proposal (f k)) (places r))
unfolding is1b references node_by is_proposal offered places
node_1b f (offers i s b) = refl
node_1b f (says i s p r) = any_gather is_proposal f r

node_2a : (f : ℕ → Message) (r : Held) → is2a (node_by f r) ≡ (not (offered r) && not (any (λ k. is_proposal (f k)) (places r)))
unfolding is2a references node_by is_proposal offered places
node_2a f (offers i s b) = refl
node_2a f (says i s p r) = ap not (any_gather is_proposal f r)

module _ (t : Table) (ord : Ordered t) (i : ℕ) where
  pub is1b_at_lem : is1b_at t i ≡ (not (offered (at t i)) && any (λ k. offered (at t k)) (places (at t i)))
  is1b_at_lem = ap is1b (tree_is t ord i) ∙ node_1b (tree t) (at t i) ∙ (λ e. not (offered (at t i)) && any (λ k. tree_proposal t k e) (places (at t i)))

  pub is2a_at_lem : is2a_at t i ≡ (not (offered (at t i)) && not (any (λ k. offered (at t k)) (places (at t i))))
  is2a_at_lem = ap is2a (tree_is t ord i) ∙ node_2a (tree t) (at t i) ∙ (λ e. not (offered (at t i)) && not (any (λ k. tree_proposal t k e) (places (at t i))))

-- ---- the ballot: a proposal's own, or the highest of the references
unfoldable pub highest : (ℕ → ℕ) → List ℕ → ℕ
highest f [] = 0
highest f (k ∷ r) = max (f k) (highest f r)

unfoldable pub ballot_by : (ℕ → ℕ) → Held → ℕ
ballot_by f (offers i s b) = b
ballot_by f (says i s p r) = highest f r

largest_append : (l k : List Message) → largest (l ++ k) ≡ max (largest l) (largest k)
unfolding largest
largest_append [] k = omega arith
largest_append (x ∷ l) k = let e : largest (l ++ k) ≡ max (largest l) (largest k) = largest_append l k in omega arith

largest_gather : (f : ℕ → Message) (r : List ℕ) → largest (trans (gather f r)) ≡ highest (λ k. ballot (f k)) r
unfolding tran gather largest highest ballot
largest_gather f [] = refl
largest_gather f (k ∷ r) = omega (arith, largest_append (tran (f k)) (trans (gather f r)), largest_gather f r)

node_ballot : (f : ℕ → Message) (r : Held) → ballot (node_by f r) ≡ ballot_by (λ k. ballot (f k)) r
unfolding node_by ballot_by ballot tran largest proposed
node_ballot f (offers i s b) = omega arith
node_ballot f (says i s p r) = omega (arith, largest_gather f r)

pub ballot_at_lem : (t : Table) → Ordered t → (i : ℕ) → ballot_at t i ≡ ballot_by (ballot_at t) (at t i)
ballot_at_lem t ord i = ap ballot (tree_is t ord i) ∙ node_ballot (tree t) (at t i)

-- ---- Caught: two records fork as their messages do
unfoldable pub forks_held : Held → Held → Bool
forks_held x y = not (offered x) && not (offered y) && eqb (held_signer x) (held_signer y) && not (same_id (held_id x) (held_id y)) && same_previous (held_previous x) (held_previous y)

pub forks_at : (t u : Table) (j k : ℕ) → forks (tree t j) (tree u k) ≡ forks_held (at t j) (at u k)
unfolding forks forks_held
forks_at t u j k = λ e. not (tree_proposal t j e) && not (tree_proposal u k e) && eqb (tree_signer t j e) (tree_signer u k e)
    && not (same_id (tree_id t j e) (tree_id u k e)) && same_previous (tree_previous t j e) (tree_previous u k e)

module _ (t : Table) (ord : Ordered t) (i : ℕ) where
  -- p signed the record of a place that i reaches and that forks with another one that i reaches
  pub caught_at_lem : (p n : ℕ) → i < n
      → caught_at t i p ≡ any (λ j. reach t i j && (any (λ k. reach t i k && forks_held (at t j) (at t k)) (below n) && eqb (held_signer (at t j)) p)) (below n)
  unfolding caught caught_in signers
  caught_at_lem p n l =
      any_filter (λ x. eqb (signer x) p) (λ x. any (forks x) (tran (tree t i))) (tran (tree t i))
      ∙ any_tran t ord i (λ x. any (forks x) (tran (tree t i)) && eqb (signer x) p) n l
      ∙ (λ e. any (λ j. reach t i j && (forking j e && eqb (tree_signer t j e) p)) (below n))
    where
      forking : (j : ℕ) → any (forks (tree t j)) (tran (tree t i)) ≡ any (λ k. reach t i k && forks_held (at t j) (at t k)) (below n)
      forking j = any_tran t ord i (forks (tree t j)) n l ∙ (λ e. any (λ k. reach t i k && forks_at t t j k e) (below n))

  -- every other place that i reaches, with the ballot of i, holds a proposal
  pub formed1b_at_lem : (n : ℕ) → i ≤ n
      → formed1b_at t i ≡ (not (is1b_at t i) || all (λ j. not (reach t i j)
      || (same_id (held_id (at t j)) (held_id (at t i)) || not (eqb (ballot_at t j) (ballot_at t i)) || offered (at t j))) (below n))
  unfolding formed1b alone
  formed1b_at_lem n l =
      (λ e. not (is1b_at t i) || all_beneath t ord i (alone (tree t i)) self n l e)
      ∙ (λ e. not (is1b_at t i) || all (λ j. not (reach t i j)
      || (same_id (tree_id t j e) (tree_id t i e) || not (eqb (ballot_at t j) (ballot_at t i)) || tree_proposal t j e)) (below n))
    where
      self : T (same_id (id_of (tree t i)) (id_of (tree t i)) || not (eqb (ballot_at t i) (ballot_at t i)) || is_proposal (tree t i))
      self = or_l (same_id (id_of (tree t i)) (id_of (tree t i)) || not (eqb (ballot_at t i) (ballot_at t i))) (is_proposal (tree t i))
          (or_l (same_id (id_of (tree t i)) (id_of (tree t i))) (not (eqb (ballot_at t i) (ballot_at t i))) ((same_id_law (id_of (tree t i)) (id_of (tree t i))).1 refl))
