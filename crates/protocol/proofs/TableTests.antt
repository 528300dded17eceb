-- A table that is written out meets the premises of agreement, and of the theorem on the November text, by computed tests.
use mathlib.Core.Path.{◌≡◌, refl, subst}
use mathlib.Core.Logic.{◌⊎◌, inl, inr}
use mathlib.Core.Bool.{Bool, true, false, not, ◌&&◌, ◌||◌}
use mathlib.Core.List.Memᴰ
use mathlib.Core.List.{List, [], ◌∷◌}
use Prim.Native.Nat.{ℕ, ◌<◌}
use lib.ListN.{length}
use lib.Dec.{T, eqb, ltb, eqb→eq, ltb→lt, nltb→le}
use Rattle.base.specs.Tests.{◌∈◌, any, all, below}
use Rattle.base.proofs.Tests.{and_l, and_r, imp_out, dec_T, any_out, all_out, below_in}
use Rattle.protocol.specs.Ids.{Id, same_id, same_previous}
use Rattle.protocol.specs.WellFormed.{chained, formed1b}
use Rattle.protocol.specs.Table.{Held, offers, Table, at, held_id, places, Ordered, tree, Content, plain, joint, content}
use Rattle.protocol.specs.Theorems.{Accepted, NoCollision}
use Rattle.protocol.proofs.Ids.{same_id_law, same_previous_law}
use Rattle.protocol.proofs.Table.{at_past, nothing_past}

-- ---- references are to earlier places
unfoldable pub ordered_test : Table → Bool
ordered_test t = all (λ i. all (λ j. ltb j i) (places (at t i))) (below (length t))

ordered_of_test : (t : Table) → T (ordered_test t) → Ordered t
unfolding ordered_test
ordered_of_test t h i j m = step (dec_T (ltb i (length t)))
  where
    nowhere : (r : Held) → r ≡ offers [] 0 0 → j ∈ places r → ⊥
    nowhere r e k = nothing_past (subst (λ (q : Held). j ∈ places q) e k)

    step : T (ltb i (length t)) ⊎ T (not (ltb i (length t))) → j < i
    step (inl c) = ltb→lt j i (all_out (λ j. ltb j i) m (all_out _ (below_in (length t) (ltb→lt i (length t) c)) h))
    step (inr c) = absurd (nowhere (at t i) (at_past t i (nltb→le i (length t) c)) m)

-- ---- the places ks are closed, chained and well-formed
unfoldable pub accepted_at : Table → List ℕ → ℕ → Bool
accepted_at t ks i = all (λ j. any (λ k. eqb j k) ks) (places (at t i)) && chained (tree t i) && formed1b (tree t i)

unfoldable pub accepted_test : Table → List ℕ → Bool
accepted_test t ks = ordered_test t && all (accepted_at t ks) ks

pub accepted_of_test : (t : Table) (ks : List ℕ) → T (accepted_test t ks) → Accepted t ks
unfolding accepted_test accepted_at
accepted_of_test t ks h = record {
  chains = record {
    ordered = ordered_of_test t (and_l (ordered_test t) (all (accepted_at t ks) ks) h);
    closed = λ i j m k. let c = one i m in listed j (all_out (λ j. any (λ k. eqb j k) ks) k (search (and_l, and_r)));
    links = λ i m. let c = one i m in search (and_l, and_r);
  };
  forms = λ i m. let c = one i m in search (and_l, and_r);
}
  where
    one : (i : ℕ) → i ∈ ks → T (all (λ j. any (λ k. eqb j k) ks) (places (at t i)) && chained (tree t i) && formed1b (tree t i))
    one i m = all_out (accepted_at t ks) m (and_r (ordered_test t) (all (accepted_at t ks) ks) h)

    listed : (j : ℕ) → T (any (λ k. eqb j k) ks) → j ∈ ks
    listed j q = let (k, m, e) = any_out (λ k. eqb j k) ks q in Memᴰ.cast (eqb→eq j k e) m

-- ---- equal ids have equal contents
unfoldable pub same_ids : List Id → List Id → Bool
same_ids [] [] = true
same_ids [] (y ∷ ys) = false
same_ids (x ∷ xs) [] = false
same_ids (x ∷ xs) (y ∷ ys) = same_id x y && same_ids xs ys

same_ids_eq : (x y : List Id) → T (same_ids x y) → x ≡ y
unfolding same_ids
same_ids_eq [] [] h = refl
same_ids_eq [] (y ∷ ys) h = absurd h
same_ids_eq (x ∷ xs) [] h = absurd h
same_ids_eq (x ∷ xs) (y ∷ ys) h = λ i. (same_id_law x y).0 (and_l (same_id x y) (same_ids xs ys) h) i ∷ same_ids_eq xs ys (and_r (same_id x y) (same_ids xs ys) h) i

unfoldable pub same_content : Content → Content → Bool
same_content (plain s b) (plain v c) = eqb s v && eqb b c
same_content (plain s b) (joint v q l) = false
same_content (joint s p k) (plain v c) = false
same_content (joint s p k) (joint v q l) = eqb s v && same_previous p q && same_ids k l

same_content_eq : (x y : Content) → T (same_content x y) → x ≡ y
unfolding same_content
same_content_eq (plain s b) (plain v c) h = λ i. plain (eqb→eq s v (and_l (eqb s v) (eqb b c) h) i) (eqb→eq b c (and_r (eqb s v) (eqb b c) h) i)
same_content_eq (plain s b) (joint v q l) h = absurd h
same_content_eq (joint s p k) (plain v c) h = absurd h
same_content_eq (joint s p k) (joint v q l) h =
    let a : s ≡ v = eqb→eq s v (search (and_l, and_r)) in
    let b : p ≡ q = (same_previous_law p q).0 (search (and_l, and_r)) in
    let c : k ≡ l = same_ids_eq k l (search (and_l, and_r)) in
    λ i. joint (a i) (b i) (c i)

unfoldable pub free_test : Table → List ℕ → Table → List ℕ → Bool
free_test t ks u js = all (λ i. all (λ j. not (same_id (held_id (at t i)) (held_id (at u j))) || same_content (content t i) (content u j)) js) ks

pub free_of_test : (t : Table) (ks : List ℕ) (u : Table) (js : List ℕ) → T (free_test t ks u js) → NoCollision t ks u js
unfolding free_test
free_of_test t ks u js h i j ki kj e =
    same_content_eq (content t i) (content u j) (imp_out (same_id (held_id (at t i)) (held_id (at u j))) (same_content (content t i) (content u j))
    (all_out (λ j. not (same_id (held_id (at t i)) (held_id (at u j))) || same_content (content t i) (content u j)) kj
    (all_out (λ i. all (λ j. not (same_id (held_id (at t i)) (held_id (at u j))) || same_content (content t i) (content u j)) js) ki h)) ((same_id_law (held_id (at t i)) (held_id (at u j))).1 e))
