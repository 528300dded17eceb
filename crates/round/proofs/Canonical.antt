-- The place that an id names, as a fact about the table alone: the lowest one that holds the id. It stays when the table grows, and a
-- record whose places are all named so is known by its id and its content.
use mathlib.Core.Path.{◌≡◌, refl, sym, ap, subst, ◌∙◌}
use mathlib.Core.Logic.{◌⊎◌, inl, inr}
use mathlib.Core.Bool.{Bool, true, false, not}
use mathlib.Core.Option.{Option, none, some}
use mathlib.Core.List.Memᴰ
use mathlib.Core.List.{List, [], ◌∷◌, ◌++◌}
use Prim.Native.Nat.{ℕ, zero, suc, ◌≤◌, ◌<◌}
use native.Mathlib.Omega.{arith}
use lib.ListN.{length, length-append}
use lib.Dec.{T, eqb, eqb→eq}
use Rattle.base.specs.Tests.{◌∈◌, pick}
use Rattle.base.proofs.Tests.{dec_T, neqb→ne}
use Rattle.protocol.specs.Ids.{Id, same_id}
use Rattle.protocol.specs.Table.{Held, offers, says, Table, at, held_id, places, ids_at, content_of}
use Rattle.protocol.proofs.Ids.{same_id_law}
use Rattle.protocol.proofs.Growth.{at_append, length_tabulate}
use Rattle.round.specs.Round.{Round}
use Rattle.round.specs.Holdings.{id_at, record_at, table_of, lowest, place_of}
use Rattle.round.proofs.Records.{table_id}

-- ---- the lowest number that passes
lowest_cong : (f g : ℕ → Bool) (n : ℕ) → ((p : ℕ) → p < n → f p ≡ g p) → lowest f n ≡ lowest g n
unfolding lowest
lowest_cong f g zero h = refl
lowest_cong f g (suc n) h =
    λ i. elim (lowest_cong f g n (λ p l. h p (omega arith)) i) [ none ↦ pick (h n (omega arith) i) (some n) none | some p ↦ some p ]

lowest_cases : (o : Option ℕ) (b : Bool) (n p : ℕ) → elim o [ none ↦ pick b (some n) none | some q ↦ some q ] ≡ some p → (o ≡ some p) ⊎ ((p ≡ n) × T b)
lowest_cases none true n p e = let d : n ≡ p = cc in inr (sym d, tt)
lowest_cases none false n p e = let z : ◌≡◌ {A = ℕ} 0 1 = cc in absurd (omega arith)
lowest_cases (some q) b n p e = inl e

lowest_passes : (f : ℕ → Bool) (n p : ℕ) → lowest f n ≡ some p → (p < n) × T (f p)
unfolding lowest
lowest_passes f zero p e = let z : ◌≡◌ {A = ℕ} 0 1 = cc in absurd (omega arith)
lowest_passes f (suc n) p e = step (λ d. lowest_passes f n p d) (lowest_cases (lowest f n) (f n) n p e)
  where
    step : (lowest f n ≡ some p → (p < n) × T (f p)) → (lowest f n ≡ some p) ⊎ ((p ≡ n) × T (f n)) → (p < suc n) × T (f p)
    step ih (inl d) = let (l, t) = ih d in (omega arith, t)
    step ih (inr (d, t)) = (omega arith, subst (λ (k : ℕ). T (f k)) (sym d) t)

lowest_stays : (f : ℕ → Bool) (m n p : ℕ) → n ≤ m → lowest f n ≡ some p → lowest f m ≡ some p
unfolding lowest
lowest_stays f zero n p l e = let z : n ≡ 0 = omega arith in sym (ap (lowest f) z) ∙ e
lowest_stays f (suc m) n p l e = step (λ (h : n ≤ m). lowest_stays f m n p h e) (dec_T (eqb n (suc m)))
  where
    step : (n ≤ m → lowest f m ≡ some p) → T (eqb n (suc m)) ⊎ T (not (eqb n (suc m))) → lowest f (suc m) ≡ some p
    step ih (inl t) = sym (ap (lowest f) (eqb→eq n (suc m) t)) ∙ e
    step ih (inr t) = rw (ih (omega (arith, neqb→ne n (suc m) t)))

-- ---- the place that an id names in a table
unfoldable pub place_in : Table → Id → Option ℕ
place_in t i = lowest (λ p. same_id (held_id (at t p)) i) (length t)

pub place_there : (t : Table) (i : Id) (p : ℕ) → place_in t i ≡ some p → (p < length t) × (held_id (at t p) ≡ i)
unfolding place_in
place_there t i p e = let (l, h) = lowest_passes (λ p. same_id (held_id (at t p)) i) (length t) p e in (l, (same_id_law (held_id (at t p)) i).0 h)

pub place_stays : (t u : Table) (i : Id) (p : ℕ) → place_in t i ≡ some p → place_in (t ++ u) i ≡ some p
unfolding place_in
place_stays t u i p e =
    lowest_stays (λ p. same_id (held_id (at (t ++ u) p)) i) (length (t ++ u)) (length t) p (omega (arith, length-append t u))
    (lowest_cong (λ p. same_id (held_id (at (t ++ u) p)) i) (λ p. same_id (held_id (at t p)) i) (length t) (λ p l. ap (λ (h : Held). same_id (held_id h) i) (at_append t u p l)) ∙ e)

-- a round's table has an entry for each held message, with its id; and an id names the same place in both
pub table_size : (r : Round) → length (table_of r) ≡ r.held
table_size r = length_tabulate r.held (record_at r)

pub place_law : (r : Round) (i : Id) → place_of r i ≡ place_in (table_of r) i
unfolding place_of place_in
place_law r i =
    lowest_cong (λ p. same_id (id_at r p) i) (λ p. same_id (held_id (at (table_of r) p)) i) r.held (λ p l. ap (λ (j : Id). same_id j i) (sym (table_id r p l)))
    ∙ ap (lowest (λ p. same_id (held_id (at (table_of r) p)) i)) (sym (table_size r))

-- ---- a place is canonical if its id names it
abbrev pub Canonical : Table → ℕ → Type 0
Canonical t p = place_in t (held_id (at t p)) ≡ some p

pub canonical_stays : (t u : Table) (p : ℕ) → p < length t → Canonical t p → Canonical (t ++ u) p
canonical_stays t u p l e = ap (λ (h : Held). place_in (t ++ u) (held_id h)) (at_append t u p l) ∙ place_stays t u (held_id (at t p)) p e

pub canonical_law : (r : Round) (p : ℕ) → p < r.held → place_of r (id_at r p) ≡ some p → Canonical (table_of r) p
canonical_law r p l e = ap (place_in (table_of r)) (table_id r p l) ∙ sym (place_law r (id_at r p)) ∙ e

canonical_one : (t : Table) (p q : ℕ) → Canonical t p → Canonical t q → held_id (at t p) ≡ held_id (at t q) → p ≡ q
canonical_one t p q a b e = let d : place_in t (held_id (at t p)) ≡ place_in t (held_id (at t q)) = ap (place_in t) e in cc

same_places : (t : Table) (l k : List ℕ) → ((j : ℕ) → j ∈ l → Canonical t j) → ((j : ℕ) → j ∈ k → Canonical t j) → ids_at t l ≡ ids_at t k → l ≡ k
unfolding ids_at
same_places t [] [] f g e = refl
same_places t [] (q ∷ k) f g e = cc
same_places t (p ∷ l) [] f g e = cc
same_places t (p ∷ l) (q ∷ k) f g e =
    let first : held_id (at t p) ≡ held_id (at t q) = cc in
    let others : ids_at t l ≡ ids_at t k = cc in
    λ i. canonical_one t p q (f p (Memᴰ.head refl)) (g q (Memᴰ.head refl)) first i
    ∷ same_places t l k (λ j m. f j (Memᴰ.tail m)) (λ j m. g j (Memᴰ.tail m)) others i

-- one id and one content, and canonical places only: one record
pub same_record : (t : Table) (h k : Held) → held_id h ≡ held_id k → content_of t h ≡ content_of t k
    → ((j : ℕ) → j ∈ places h → Canonical t j) → ((j : ℕ) → j ∈ places k → Canonical t j) → h ≡ k
unfolding held_id content_of places
same_record t (offers i s b) (offers j v c) d e f g = cc
same_record t (offers i s b) (says j v o q) d e f g = cc
same_record t (says i s p l) (offers j v c) d e f g = cc
same_record t (says i s p l) (says j v o q) d e f g =
    let ids : ids_at t l ≡ ids_at t q = cc in
    let one : l ≡ q = same_places t l q f g ids in
    cc
