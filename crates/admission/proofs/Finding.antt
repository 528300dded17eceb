-- Ids compared, the place that an id names, and what the loops over the ids of a message need.
use mathlib.Core.Path.{◌≡◌, refl, sym, ap, ap₂, ◌∙◌}
use mathlib.Core.Bool.{Bool, true, false, ◌&&◌, and-true}
use mathlib.Core.Logic.{◌≢◌}
use mathlib.Core.Option.{none, some}
use mathlib.Core.List.{List, [], ◌∷◌, ◌++◌, map-append}
use Prim.Native.Nat.{ℕ, zero, suc, ◌+◌, ◌-◌, ◌*◌, ◌≤◌, ◌<◌}
use native.Mathlib.Nat.{not-suc-le-zero, add-zero, add_assoc}
use native.Mathlib.Numerals.{add-one}
use native.Mathlib.Decide.{ℕ_discrete}
use native.Mathlib.Omega.{arith}
use lib.Dec.{eqb}
use lib.ListN.{length, get_or}
use borrow.Author.Tests.{eqb-true, eqb-false, eq-eqb, ne_eqb}
use Rattle.base.specs.Bytes.{be, part, Octets}
use Rattle.base.proofs.Bytes.{part_suc}
use Rattle.message.specs.Layout.{id_len}
use Rattle.protocol.specs.Ids.{Id, same_id}
use Rattle.round.specs.Round.{Round}
use Rattle.round.specs.Holdings.{id_at, lowest, place_of}
use Rattle.round.specs.Rows.{or_zero, ids_from}
use Rattle.round.proofs.Named.{place_some}
use Rattle.std.proofs.Common.{Option, Some}
use Rattle.admission.specs.Inside.Finding.{place_found, Inside, places_of}

-- ---- two ids, by the numbers that their bytes are
-- numbers are the same if what stands above their last bytes is, and these are
same_last : (p q x y : ℕ) (r : Bool) → x < 256 → y < 256 → (eqb p q && (eqb x y && r)) ≡ (eqb (p * 256 + x) (q * 256 + y) && r)
same_last p q x y r hx hy = go (eqb p q) (eqb x y) refl refl
  where
    go : (t u : Bool) → eqb p q ≡ t → eqb x y ≡ u → (t && (u && r)) ≡ (eqb (p * 256 + x) (q * 256 + y) && r)
    go true true e f =
        let v = eqb-true p q e in
        let w = eqb-true x y f in
        simp (eq-eqb (p * 256 + x) (q * 256 + y) (omega arith))
    go true false e f = let w = eqb-false x y f in simp (ne_eqb (p * 256 + x) (q * 256 + y) (λ k. w (omega arith)))
    go false u e f = let v = eqb-false p q e in simp (ne_eqb (p * 256 + x) (q * 256 + y) (λ k. v (omega arith)))

module _ (a b : List ℕ) (oa : Octets a) (ob : Octets b) where
  -- n bytes of each compared at once, as big-endian numbers, and then what follows
  same_number : (n m i j : ℕ) → i + n + m ≤ length a → j + n + m ≤ length b
      → same_id (part (n + m) a i) (part (n + m) b j) ≡ (eqb (be n a i) (be n b j) && same_id (part m a (i + n)) (part m b (j + n)))
  unfolding be same_id
  same_number zero m i j ha hb =
      let k : 0 + m ≡ m = omega arith in
      ap (λ (n : ℕ). same_id (part n a i) (part n b j)) k ∙ ap₂ (λ (x y : ℕ). same_id (part m a x) (part m b y)) (sym (add-zero i)) (sym (add-zero j))
  same_number (suc n) m i j ha hb =
      let k : suc n + m ≡ n + suc m = omega arith in
      let u : suc (i + n) ≡ i + suc n = omega arith in
      let v : suc (j + n) ≡ j + suc n = omega arith in
      let x = get_or a (i + n) 0 in
      let y = get_or b (j + n) 0 in
      let e : same_id (part (suc m) a (i + n)) (part (suc m) b (j + n)) ≡ (eqb x y && same_id (part m a (i + suc n)) (part m b (j + suc n))) =
      ap₂ same_id (part_suc m a (i + n) (omega arith)) (part_suc m b (j + n) (omega arith)) ∙ ap₂ (λ (p q : ℕ). eqb x y && same_id (part m a p) (part m b q)) u v in
      ap (λ (n : ℕ). same_id (part n a i) (part n b j)) k ∙ same_number n (suc m) i j (omega arith) (omega arith)
      ∙ ap (λ (t : Bool). eqb (be n a i) (be n b j) && t) e
      ∙ same_last (be n a i) (be n b j) x y (same_id (part m a (i + suc n)) (part m b (j + suc n))) (oa (i + n)) (ob (j + n))

  module _ (i j : ℕ) (ha : i + id_len ≤ length a) (hb : j + id_len ≤ length b) where
    -- a word of each compared, behind k bytes and with m bytes behind it
    same_word : (k m : ℕ) → k + 8 + m ≤ id_len
        → same_id (part (8 + m) a (i + k)) (part (8 + m) b (j + k)) ≡ (eqb (be 8 a (i + k)) (be 8 b (j + k)) && same_id (part m a (i + (k + 8))) (part m b (j + (k + 8))))
    same_word k m h =
        same_number 8 m (i + k) (j + k) (omega arith) (omega arith)
        ∙ ap₂ (λ (x y : ℕ). eqb (be 8 a (i + k)) (be 8 b (j + k)) && same_id (part m a x) (part m b y)) (add_assoc i k 8) (add_assoc j k 8)

    -- two ids are the same if their four words are
    pub same_words : same_id (part id_len a i) (part id_len b j)
        ≡ (eqb (be 8 a i) (be 8 b j) && (eqb (be 8 a (i + 8)) (be 8 b (j + 8)) && (eqb (be 8 a (i + 16)) (be 8 b (j + 16)) && eqb (be 8 a (i + 24)) (be 8 b (j + 24)))))
    unfolding same_id
    same_words =
        same_number 8 24 i j (omega arith) (omega arith)
        ∙ rw (same_word 8 16 (omega arith), same_word 16 8 (omega arith), same_word 24 0 (omega arith), and-true)

    -- they differ where their first words do
    pub first_differs : be 8 a i ≢ be 8 b j → same_id (part id_len a i) (part id_len b j) ≡ false
    first_differs d = same_words ∙ simp (ne_eqb (be 8 a i) (be 8 b j) d)

-- ---- the least number that passes
module _ (f : ℕ → Bool) where
  pub lowest_miss : (p : ℕ) → lowest f p ≡ none → f p ≡ false → lowest f (suc p) ≡ none
  unfolding lowest
  lowest_miss p e h = simp (e, h)

  pub lowest_hit : (p n : ℕ) → p < n → lowest f p ≡ none → f p ≡ true → lowest f n ≡ some p
  unfolding lowest
  lowest_hit p zero l e h = absurd (not-suc-le-zero l)
  lowest_hit p (suc n) l e h = go (λ q. lowest_hit p n q e h) (ℕ_discrete p n)
    where
      go : (p < n → lowest f n ≡ some p) → Dec (p ≡ n) → lowest f (suc n) ≡ some p
      go rest (yes q) = simp (← q, e, h)
      go rest (no q) = let r : lowest f n ≡ some p = rest (omega arith) in simp r

-- ---- the place that an id names
module _ (r : Round) (i : Id) where
  -- place p has the id
  abbrev pub has_id : ℕ → Bool
  has_id p = same_id (id_at r p) i

  pub place_lowest : place_of r i ≡ lowest has_id r.held
  unfolding place_of
  place_lowest = refl

  -- a place that was found for the id
  module _ (f : Option ℕ) (e : place_found f ≡ place_of r i) where
    pub found_at : (p : ℕ) → f ≡ Some p → place_of r i ≡ some p
    found_at p h = sym e ∙ ap place_found h

    pub found_inside : Inside r f
    found_inside p h = (place_some r i p (found_at p h)).inside

-- ---- ids one behind the other: the next one, and one more at the end
pub ids_step : (b : List ℕ) (at n i : ℕ) → i < n → ids_from (n - i) b (at + id_len * i) ≡ part id_len b (at + id_len * i) ∷ ids_from (n - (i + 1)) b (at + id_len * (i + 1))
unfolding ids_from
ids_step b at n i h =
    let e : n - i ≡ suc (n - (i + 1)) = omega arith in
    let u : at + id_len * (i + 1) ≡ at + id_len * i + id_len = omega arith in
    rw (e, u)

pub ids_more : (b : List ℕ) (at n : ℕ) → ids_from (suc n) b at ≡ ids_from n b at ++ (part id_len b (at + id_len * n) ∷ [])
unfolding ids_from
ids_more b at zero = let e : at ≡ at + id_len * 0 = omega arith in ap {B = List Id} (λ (k : ℕ). part id_len b k ∷ []) e
ids_more b at (suc n) =
    let e : at + id_len + id_len * n ≡ at + id_len * suc n = omega arith in
    ap (◌∷◌ (part id_len b at)) (ids_more b (at + id_len) n ∙ ap (λ (k : ℕ). ids_from n b (at + id_len) ++ (part id_len b k ∷ [])) e)

pub places_more : (r : Round) (b : List ℕ) (at n : ℕ) → places_of r (ids_from (n + 1) b at) ≡ places_of r (ids_from n b at) ++ (or_zero (place_of r (part id_len b (at + id_len * n))) ∷ [])
places_more r b at n =
    ap (λ (k : ℕ). places_of r (ids_from k b at)) (add-one n) ∙ ap (places_of r) (ids_more b at n)
    ∙ map-append (λ i. or_zero (place_of r i)) (ids_from n b at) (part id_len b (at + id_len * n) ∷ [])
