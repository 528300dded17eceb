-- A table that grows at its end keeps the records, the messages, the reach and the contents of its places.
use mathlib.Core.Path.{◌≡◌, refl, sym, ap, subst, ◌∙◌}
use mathlib.Core.Logic.{◌⊎◌, inl, inr}
use mathlib.Core.Bool.{not, ◌||◌}
use mathlib.Core.List.Memᴰ
use mathlib.Core.List.{List, [], ◌∷◌, ◌++◌}
use Prim.Native.Nat.{ℕ, zero, suc, ◌+◌, ◌<◌}
use native.Mathlib.Omega.{arith}
use lib.ListN.{length, get_or-append, length-append}
use lib.Seq.{get_or_at}
use lib.Dec.{T, eqb, ltb, eqb→eq, ltb→lt, nltb→le}
use Rattle.base.specs.Tests.{◌∈◌, any}
use Rattle.base.proofs.Tests.{any_cong, dec_T, neqb→ne}
use Rattle.protocol.specs.Table.{Held, offers, says, Table, at, tabulate, held_id, places, Ordered, node_by, tree_in, tree, messages, reach_by, reach_in, reach, joint, ids_at, content_of, content}
use Rattle.protocol.proofs.Table.{at_past, nothing_past, node_cong, tree_is}

pub at_append : (t u : Table) (i : ℕ) → i < length t → at (t ++ u) i ≡ at t i
unfolding at
at_append t u i h = get_or-append t u (offers [] 0 0) i h

pub at_end : (t : Table) (r : Held) → at (t ++ r ∷ []) (length t) ≡ r
unfolding at
at_end t r = get_or_at t r [] (offers [] 0 0) (length t) refl

-- what a record says stays, as long as it refers to places of the table
ids_append : (t u : Table) (r : List ℕ) → ((j : ℕ) → j ∈ r → j < length t) → ids_at (t ++ u) r ≡ ids_at t r
unfolding ids_at
ids_append t u [] h = refl
ids_append t u (k ∷ r) h = λ e. held_id (at_append t u k (h k (Memᴰ.head refl)) e) ∷ ids_append t u r (λ i m. h i (Memᴰ.tail m)) e

pub content_of_append : (t u : Table) (r : Held) → ((j : ℕ) → j ∈ places r → j < length t) → content_of (t ++ u) r ≡ content_of t r
unfolding content_of places
content_of_append t u (offers i s b) h = refl
content_of_append t u (says i s p r) h = ap (joint s p) (ids_append t u r h)

module _ (t u : Table) (ord : Ordered t) where
  tree_in_append : (k i : ℕ) → i < length t → tree_in (t ++ u) k i ≡ tree_in t k i
  unfolding tree_in
  tree_in_append zero i h = refl
  tree_in_append (suc k) i h =
      ap (node_by (tree_in (t ++ u) k)) (at_append t u i h)
      ∙ node_cong (tree_in (t ++ u) k) (tree_in t k) (at t i) (λ j m. tree_in_append k j (omega (arith, ord i j m)))

  pub tree_append : (i : ℕ) → i < length t → tree (t ++ u) i ≡ tree t i
  unfolding tree
  tree_append i h = tree_in_append (suc i) i h

  pub messages_append : (ks : List ℕ) → ((i : ℕ) → i ∈ ks → i < length t) → messages (t ++ u) ks ≡ messages t ks
  unfolding messages
  messages_append [] h = refl
  messages_append (k ∷ ks) h = λ e. tree_append k (h k (Memᴰ.head refl)) e ∷ messages_append ks (λ i m. h i (Memᴰ.tail m)) e

  reach_in_append : (k i j : ℕ) → i < length t → reach_in (t ++ u) k i j ≡ reach_in t k i j
  unfolding reach_in reach_by
  reach_in_append zero i j h = refl
  reach_in_append (suc k) i j h =
      ap (λ (r : Held). eqb i j || any (λ n. reach_in (t ++ u) k n j) (places r)) (at_append t u i h)
      ∙ (λ e. eqb i j || any_cong (λ n. reach_in (t ++ u) k n j) (λ n. reach_in t k n j) (places (at t i)) (λ n m. reach_in_append k n j (omega (arith, ord i n m))) e)

  pub reach_append : (i j : ℕ) → i < length t → reach (t ++ u) i j ≡ reach t i j
  unfolding reach
  reach_append i j h = reach_in_append (suc i) i j h

  -- contents
  pub content_append : (i : ℕ) → i < length t → content (t ++ u) i ≡ content t i
  content_append i h = ap (content_of (t ++ u)) (at_append t u i h) ∙ content_of_append t u (at t i) (λ j m. omega (arith, ord i j m))

-- the front of an ordered table is ordered
pub ordered_front : (t u : Table) → Ordered (t ++ u) → Ordered t
ordered_front t u ord i j m = step (dec_T (ltb i (length t)))
  where
    step : T (ltb i (length t)) ⊎ T (not (ltb i (length t))) → j < i
    step (inl c) = ord i j (subst (λ (r : Held). j ∈ places r) (sym (at_append t u i (ltb→lt i (length t) c))) m)
    step (inr c) = absurd (nothing_past (subst (λ (r : Held). j ∈ places r) (at_past t i (nltb→le i (length t) c)) m))

-- a record whose references are places of the table keeps it ordered
pub ordered_snoc : (t : Table) (r : Held) → Ordered t → ((j : ℕ) → j ∈ places r → j < length t) → Ordered (t ++ r ∷ [])
ordered_snoc t r ord h i j m = step (dec_T (ltb i (length t))) (dec_T (eqb i (length t)))
  where
    size : length (t ++ r ∷ []) ≡ length t + 1
    size = length-append t (r ∷ [])

    step : T (ltb i (length t)) ⊎ T (not (ltb i (length t))) → T (eqb i (length t)) ⊎ T (not (eqb i (length t))) → j < i
    step (inl c) d = ord i j (subst (λ (q : Held). j ∈ places q) (at_append t (r ∷ []) i (ltb→lt i (length t) c)) m)
    step (inr c) (inl d) =
        let e : i ≡ length t = eqb→eq i (length t) d in
        let k : j ∈ places r = subst (λ (q : Held). j ∈ places q) (ap (at (t ++ r ∷ [])) e ∙ at_end t r) m in
        omega (arith, h j k)
    step (inr c) (inr d) = absurd (nothing_past (subst (λ (q : Held). j ∈ places q) (at_past (t ++ r ∷ []) i (omega (arith, size, nltb→le i (length t) c, neqb→ne i (length t) d))) m))

-- ---- the last record, from those before it
module _ (t : Table) (r : Held) (ord : Ordered t) (h : (j : ℕ) → j ∈ places r → j < length t) where
  pub tree_end : tree (t ++ r ∷ []) (length t) ≡ node_by (tree t) r
  tree_end =
      tree_is (t ++ r ∷ []) (ordered_snoc t r ord h) (length t)
      ∙ ap (node_by (tree (t ++ r ∷ []))) (at_end t r)
      ∙ node_cong (tree (t ++ r ∷ [])) (tree t) r (λ j m. tree_append t (r ∷ []) ord j (h j m))

pub ordered_nil : Ordered []
ordered_nil i j m = absurd (nothing_past (subst (λ (q : Held). j ∈ places q) (at_past [] i (omega arith)) m))

-- ---- the table of the first n records of f
pub length_tabulate : (n : ℕ) (f : ℕ → Held) → length (tabulate n f) ≡ n
unfolding tabulate
length_tabulate zero f = refl
length_tabulate (suc n) f = omega (arith, length-append (tabulate n f) (f n ∷ []), length_tabulate n f)

pub at_tabulate : (n : ℕ) (f : ℕ → Held) (i : ℕ) → i < n → at (tabulate n f) i ≡ f i
unfolding tabulate
at_tabulate zero f i h = absurd (omega arith)
at_tabulate (suc n) f i h = step (λ (l : i < n). at_tabulate n f i l) (length_tabulate n f) (dec_T (eqb i n))
  where
    step : (i < n → at (tabulate n f) i ≡ f i) → length (tabulate n f) ≡ n → T (eqb i n) ⊎ T (not (eqb i n)) → at (tabulate n f ++ f n ∷ []) i ≡ f i
    step g size (inl d) =
        let e : i ≡ n = eqb→eq i n d in
        let e' : i ≡ length (tabulate n f) = omega arith in
        ap (at (tabulate n f ++ f n ∷ [])) e' ∙ at_end (tabulate n f) (f n) ∙ ap f (omega arith)
    step g size (inr d) = let l : i < n = omega (arith, neqb→ne i n d) in at_append (tabulate n f) (f n ∷ []) i (omega arith) ∙ g l
