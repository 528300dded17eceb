-- The message of a place and the reach of a place, as equations with no number in sight; and Tran of the message of a place is the
-- messages of the places that it reaches. So every test over Tran is a loop over places.
use mathlib.Core.Path.{◌≡◌, refl, sym, ap, subst, ◌∙◌}
use mathlib.Core.Logic.{◌⊎◌, inl, inr, ◌↔◌}
use mathlib.Core.Bool.{◌||◌}
use mathlib.Core.List.Memᴰ
use mathlib.Core.List.{List, [], ◌∷◌}
use Prim.Native.Nat.{ℕ, zero, suc, ◌≤◌, ◌<◌}
use native.Mathlib.Omega.{arith}
use lib.ListN.{length, get_or-eq_default}
use lib.Dec.{T, eqb, eqb→eq, eqb_refl}
use Rattle.base.specs.Tests.{◌∈◌, any}
use Rattle.base.proofs.Tests.{any_cong, any_in, any_out, or_l, or_r, or_out}
use Rattle.protocol.specs.Message.{Message, acceptor, cons, listed, id_of, signer, previous, references, is_proposal, tran, trans}
use Rattle.protocol.specs.Table.{Held, offers, says, Table, at, held_id, held_signer, held_previous, offered, places, Ordered, gather, node_by, tree_in, tree, reach_by, reach_in, reach}
use Rattle.protocol.specs.Equations.{TreeOfRecord, ReachOfRecord, TranOfPlace}
use Rattle.protocol.proofs.Message.{tran_self}

-- past the end a table holds nothing that refers to anything
pub at_past : (t : Table) (i : ℕ) → length t ≤ i → at t i ≡ offers [] 0 0
unfolding at
at_past t i h = get_or-eq_default t (offers [] 0 0) h

pub nothing_past : {j : ℕ} → j ∈ places (offers [] 0 0) → ⊥
unfolding places
nothing_past m = elim m [ ]

-- ---- the message of a place
gather_cong : (f g : ℕ → Message) (r : List ℕ) → ((j : ℕ) → j ∈ r → f j ≡ g j) → gather f r ≡ gather g r
unfolding gather
gather_cong f g [] h = refl
gather_cong f g (j ∷ r) h = λ i. cons (h j (Memᴰ.head refl) i) (gather_cong f g r (λ k m. h k (Memᴰ.tail m)) i)

pub node_cong : (f g : ℕ → Message) (r : Held) → ((j : ℕ) → j ∈ places r → f j ≡ g j) → node_by f r ≡ node_by g r
unfolding node_by places
node_cong f g (offers i s b) h = refl
node_cong f g (says i s p r) h = ap (acceptor i s p) (gather_cong f g r h)

tree_stable : (t : Table) → Ordered t → (k l i : ℕ) → i < k → i < l → tree_in t k i ≡ tree_in t l i
unfolding tree_in
tree_stable t ord zero l i h g = absurd (omega arith)
tree_stable t ord (suc k) zero i h g = absurd (omega arith)
tree_stable t ord (suc k) (suc l) i h g = node_cong (tree_in t k) (tree_in t l) (at t i) (λ j m. tree_stable t ord k l j (omega (arith, ord i j m)) (omega (arith, ord i j m)))

-- THE EQUATION of the message of a place
pub tree_is : (t : Table) → Ordered t → (i : ℕ) → tree t i ≡ node_by (tree t) (at t i)
unfolding tree tree_in
tree_is t ord i = node_cong (tree_in t i) (tree t) (at t i) (λ j m. tree_stable t ord i (suc j) j (ord i j m) (omega arith))

pub tree_of_record : TreeOfRecord
tree_of_record = tree_is

-- ---- its fields are those of the record
module _ (f : ℕ → Message) where
  node_id : (r : Held) → id_of (node_by f r) ≡ held_id r
  unfolding node_by id_of held_id
  node_id (offers i s b) = refl
  node_id (says i s p r) = refl

  node_signer : (r : Held) → signer (node_by f r) ≡ held_signer r
  unfolding node_by signer held_signer
  node_signer (offers i s b) = refl
  node_signer (says i s p r) = refl

  node_previous : (r : Held) → previous (node_by f r) ≡ held_previous r
  unfolding node_by previous held_previous
  node_previous (offers i s b) = refl
  node_previous (says i s p r) = refl

  node_proposal : (r : Held) → is_proposal (node_by f r) ≡ offered r
  unfolding node_by is_proposal offered
  node_proposal (offers i s b) = refl
  node_proposal (says i s p r) = refl

  -- what a record refers to is a reference of its message
  pub gather_in : {k : ℕ} {l : List ℕ} → k ∈ l → f k ∈ listed (gather f l)
  unfolding gather listed
  gather_in (Memᴰ.head e) = Memᴰ.head (ap f e)
  gather_in (Memᴰ.tail m) = Memᴰ.tail (gather_in m)

  pub node_refers : (r : Held) {k : ℕ} → k ∈ places r → f k ∈ references (node_by f r)
  unfolding node_by references places
  node_refers (offers i s b) m = elim m [ ]
  node_refers (says i s p r) m = gather_in m

module _ (t : Table) (i : ℕ) where
  pub tree_id : id_of (tree t i) ≡ held_id (at t i)
  unfolding tree tree_in
  tree_id = node_id (tree_in t i) (at t i)

  pub tree_signer : signer (tree t i) ≡ held_signer (at t i)
  unfolding tree tree_in
  tree_signer = node_signer (tree_in t i) (at t i)

  pub tree_previous : previous (tree t i) ≡ held_previous (at t i)
  unfolding tree tree_in
  tree_previous = node_previous (tree_in t i) (at t i)

  pub tree_proposal : is_proposal (tree t i) ≡ offered (at t i)
  unfolding tree tree_in
  tree_proposal = node_proposal (tree_in t i) (at t i)

-- ---- the reach of a place
reach_stable : (t : Table) → Ordered t → (k l i j : ℕ) → i < k → i < l → reach_in t k i j ≡ reach_in t l i j
unfolding reach_in reach_by
reach_stable t ord zero l i j h g = absurd (omega arith)
reach_stable t ord (suc k) zero i j h g = absurd (omega arith)
reach_stable t ord (suc k) (suc l) i j h g =
    λ e. eqb i j || any_cong (λ n. reach_in t k n j) (λ n. reach_in t l n j) (places (at t i)) (λ n m. reach_stable t ord k l n j (omega (arith, ord i n m)) (omega (arith, ord i n m))) e

-- THE EQUATION of reach
pub reach_is : (t : Table) → Ordered t → (i j : ℕ) → reach t i j ≡ (eqb i j || any (λ k. reach t k j) (places (at t i)))
unfolding reach reach_in reach_by
reach_is t ord i j = λ e. eqb i j || any_cong (λ n. reach_in t i n j) (λ n. reach t n j) (places (at t i)) (λ n m. reach_stable t ord i (suc n) n j (ord i n m) (omega arith)) e

pub reach_of_record : ReachOfRecord
reach_of_record = reach_is

-- ---- Tran of a node
trans_gather : (f : ℕ → Message) (r : List ℕ) (x : Message) → x ∈ trans (gather f r) → (k : ℕ) × (k ∈ r) × (x ∈ tran (f k))
unfolding gather tran
trans_gather f [] x h = elim h [ ]
trans_gather f (j ∷ r) x h = step (λ (q : x ∈ trans (gather f r)). trans_gather f r x q) (Memᴰ.append_cases (tran (f j)) h)
  where
    step : (x ∈ trans (gather f r) → (k : ℕ) × (k ∈ r) × (x ∈ tran (f k))) → (x ∈ tran (f j)) ⊎ (x ∈ trans (gather f r)) → (k : ℕ) × (k ∈ j ∷ r) × (x ∈ tran (f k))
    step g (inl q) = (j, Memᴰ.head refl, q)
    step g (inr q) = let (k, m, s) = g q in (k, Memᴰ.tail m, s)

gather_trans : (f : ℕ → Message) {k : ℕ} {r : List ℕ} (x : Message) → k ∈ r → x ∈ tran (f k) → x ∈ trans (gather f r)
unfolding gather tran
gather_trans f x (Memᴰ.head {x = j} {xs = r} e) h = Memᴰ.append_left (trans (gather f r)) (subst (λ (n : ℕ). x ∈ tran (f n)) e h)
gather_trans f x (Memᴰ.tail {x = j} {xs = r} m) h = Memᴰ.append_right (tran (f j)) (gather_trans f x m h)

node_cases : (f : ℕ → Message) (r : Held) (x : Message) → x ∈ tran (node_by f r) → (x ≡ node_by f r) ⊎ ((k : ℕ) × (k ∈ places r) × (x ∈ tran (f k)))
unfolding node_by tran places
node_cases f (offers i s b) x (Memᴰ.head e) = inl e
node_cases f (offers i s b) x (Memᴰ.tail m) = elim m [ ]
node_cases f (says i s p r) x (Memᴰ.head e) = inl e
node_cases f (says i s p r) x (Memᴰ.tail m) = inr (trans_gather f r x m)

node_holds : (f : ℕ → Message) (r : Held) (x : Message) {k : ℕ} → k ∈ places r → x ∈ tran (f k) → x ∈ tran (node_by f r)
unfolding node_by tran places
node_holds f (offers i s b) x m h = elim m [ ]
node_holds f (says i s p r) x m h = Memᴰ.tail (gather_trans f x m h)

module _ (t : Table) (ord : Ordered t) where
  pub reach_self : (i : ℕ) → T (reach t i i)
  reach_self i = rw (reach_is t ord i i) (or_l (eqb i i) (any (λ k. reach t k i) (places (at t i))) (eqb_refl i))

  pub reach_step : (i k j : ℕ) → k ∈ places (at t i) → T (reach t k j) → T (reach t i j)
  reach_step i k j m h = rw (reach_is t ord i j) (or_r (eqb i j) (any (λ k. reach t k j) (places (at t i))) (any_in (λ k. reach t k j) m h))

  pub reach_cases : (i j : ℕ) → T (reach t i j) → (i ≡ j) ⊎ ((k : ℕ) × (k ∈ places (at t i)) × T (reach t k j))
  reach_cases i j h = step (or_out (eqb i j) (any (λ k. reach t k j) (places (at t i))) (rw (reach_is t ord i j) at h))
    where
      step : T (eqb i j) ⊎ T (any (λ k. reach t k j) (places (at t i))) → (i ≡ j) ⊎ ((k : ℕ) × (k ∈ places (at t i)) × T (reach t k j))
      step (inl q) = inl (eqb→eq i j q)
      step (inr q) = inr (any_out (λ k. reach t k j) (places (at t i)) q)

  reach_down : (n i j : ℕ) → i < n → T (reach t i j) → j ≤ i
  reach_down zero i j l h = absurd (omega arith)
  reach_down (suc n) i j l h = step (λ k q. reach_down n k j q) (reach_cases i j h)
    where
      step : ((k : ℕ) → k < n → T (reach t k j) → j ≤ k) → (i ≡ j) ⊎ ((k : ℕ) × (k ∈ places (at t i)) × T (reach t k j)) → j ≤ i
      step f (inl e) = omega arith
      step f (inr (k, m, q)) = let lt : k < i = ord i k m in omega (arith, f k (omega arith) q)

  -- a place reaches none above it
  pub reach_le : (i j : ℕ) → T (reach t i j) → j ≤ i
  reach_le i j h = reach_down (suc i) i j (omega arith) h

  tran_out : (n i : ℕ) (x : Message) → i < n → x ∈ tran (tree t i) → (j : ℕ) × T (reach t i j) × (x ≡ tree t j)
  tran_out zero i x l h = absurd (omega arith)
  tran_out (suc n) i x l h = step (λ k q. tran_out n k x q) (node_cases (tree t) (at t i) x (rw (tree_is t ord i) at h))
    where
      step : ((k : ℕ) → k < n → x ∈ tran (tree t k) → (j : ℕ) × T (reach t k j) × (x ≡ tree t j))
          → (x ≡ node_by (tree t) (at t i)) ⊎ ((k : ℕ) × (k ∈ places (at t i)) × (x ∈ tran (tree t k))) → (j : ℕ) × T (reach t i j) × (x ≡ tree t j)
      step f (inl e) = (i, reach_self i, e ∙ sym (tree_is t ord i))
      step f (inr (k, m, q)) = let (j, r, e) = f k (omega (arith, ord i k m)) q in (j, reach_step i k j m r, e)

  tran_in : (n i j : ℕ) → i < n → T (reach t i j) → tree t j ∈ tran (tree t i)
  tran_in zero i j l h = absurd (omega arith)
  tran_in (suc n) i j l h = step (λ k q. tran_in n k j q) (reach_cases i j h)
    where
      step : ((k : ℕ) → k < n → T (reach t k j) → tree t j ∈ tran (tree t k)) → (i ≡ j) ⊎ ((k : ℕ) × (k ∈ places (at t i)) × T (reach t k j)) → tree t j ∈ tran (tree t i)
      step f (inl e) = subst (λ (n : ℕ). tree t n ∈ tran (tree t i)) e (tran_self (tree t i))
      step f (inr (k, m, q)) = rw (tree_is t ord i) (node_holds (tree t) (at t i) (tree t j) m (f k (omega (arith, ord i k m)) q))

  -- THE LINK: a message is in Tran of the message of place i if it is that of a place that i reaches
  pub tran_places : (i : ℕ) (x : Message) → x ∈ tran (tree t i) ↔ ((j : ℕ) × T (reach t i j) × (x ≡ tree t j))
  tran_places i x = (λ h. tran_out (suc i) i x (omega arith) h, λ (j, r, e). Memᴰ.cast e (tran_in (suc i) i j (omega arith) r))

pub tran_of_place : TranOfPlace
tran_of_place = tran_places
