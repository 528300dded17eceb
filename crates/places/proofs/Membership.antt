-- Sets as bits: what testing, adding, joining and meeting say of membership.
use mathlib.Core.Path.{◌≡◌, refl, sym, ap, ap₂, subst, ◌∙◌}
use mathlib.Core.Logic.{◌⊎◌, inl, inr}
use mathlib.Core.Bool.{Bool, true, false, not, ◌&&◌, ◌||◌, or_comm}
use Prim.Native.Nat.{ℕ, ◌+◌, ◌-◌, ◌*◌, ◌/◌, ◌%◌, ◌^◌, ◌≤◌, ◌<◌}
use native.Mathlib.Nat.{lt_of_le_of_lt}
use native.Mathlib.Decide.{dec_lt}
use native.Mathlib.Omega.{arith}
use borrow.Author.Tests.{lt-ltb, le-ltb, ne_eqb}
use lib.Bits.{bit_and, bit_or, and_mask, and_le_l}
use lib.Dec.{T, eqb, ltb, eqb→eq, not_T}
use Rattle.base.specs.Tests.{pick, any, below}
use Rattle.base.specs.Sets.{has}
use Rattle.base.proofs.Tests.{same_test, not_true, eq→eqb, neqb→ne, and_in, or_l, or_r, or_out, any_in, any_out, below_in}
use Rattle.base.proofs.Bits.{one_shl, some_bit}
use Rattle.base.proofs.Sets.{has_or, has_and, has_one, has_below}
use Rattle.places.specs.Inside.PlaceSets.{in_set, meets}
use Rattle.round.specs.Limits.{max_held}

pub other : {t : Bool} → t ≡ true → t ≡ false → ⊥
other p q = let z : ◌≡◌ {A = ℕ} 0 1 = cc in omega arith

pub and_off : (a b : Bool) → b ≡ false → (a && b) ≡ false
and_off true b e = e
and_off false b e = refl

pub and_on : (a b : Bool) → b ≡ true → (a && b) ≡ a
and_on true b e = e
and_on false b e = refl

pub eqb_swap : (m n : ℕ) → eqb m n ≡ eqb n m
eqb_swap m n = same_test _ _ (λ t. eq→eqb (sym (eqb→eq m n t))) (λ t. eq→eqb (sym (eqb→eq n m t)))

pub has_zero : (p : ℕ) → has 0 p ≡ false
has_zero p = not_true (has 0 p) (not_T (has 0 p) (λ t. let l = has_below 0 0 p (omega arith) t in omega arith))

-- `(x >> j) & 1 == 1`
pub has_shift : (x j : ℕ) → eqb (bit_and (x / 2 ^ j) 1) 1 ≡ has x j
unfolding has
has_shift x j = ap (λ (y : ℕ). eqb y 1) (and_mask (x / 2 ^ j) 1)

-- `x | (1 << j)` at a width
pub has_with : (k x j q : ℕ) → j < k → has (bit_or x (1 * 2 ^ j % 2 ^ k)) q ≡ (eqb j q || has x q)
has_with k x j q h =
    ap (λ (y : ℕ). has (bit_or x y) q) (one_shl k j h) ∙ has_or x (2 ^ j) q ∙ or_comm (has x q) (has (2 ^ j) q)
    ∙ ap (λ (b : Bool). b || has x q) (has_one j q ∙ eqb_swap q j)

-- ---- sets of places
module _ (low high j : ℕ) where
  pub in_low : j < 64 → in_set low high j ≡ has low j
  unfolding in_set
  in_low h = ap (λ (b : Bool). pick b (has low j) (has high (j - 64))) (lt-ltb j 64 h)

  pub in_high : 64 ≤ j → in_set low high j ≡ has high (j - 64)
  unfolding in_set
  in_high h = ap (λ (b : Bool). pick b (has low j) (has high (j - 64))) (le-ltb j 64 h)

pub in_zero : (q : ℕ) → in_set 0 0 q ≡ false
unfolding in_set
in_zero q = ap₂ (pick (ltb q 64)) (has_zero q) (has_zero (q - 64)) ∙ same (ltb q 64)
  where
    same : (t : Bool) → pick t false false ≡ false
    same true = refl
    same false = refl

pub in_or : (a b c d q : ℕ) → in_set (bit_or a b) (bit_or c d) q ≡ (in_set a c q || in_set b d q)
unfolding in_set
in_or a b c d q = ap₂ (pick (ltb q 64)) (has_or a b q) (has_or c d (q - 64)) ∙ split (ltb q 64) (has a q) (has b q) (has c (q - 64)) (has d (q - 64))
  where
    split : (t x y z w : Bool) → pick t (x || y) (z || w) ≡ (pick t x z || pick t y w)
    split true x y z w = refl
    split false x y z w = refl

pub with_low : (low high j q : ℕ) → j < 64 → in_set (bit_or low (1 * 2 ^ j % 2 ^ 64)) high q ≡ (eqb j q || in_set low high q)
with_low low high j q h = step (dec_lt q 64)
  where
    step : Dec (q < 64) → in_set (bit_or low (1 * 2 ^ j % 2 ^ 64)) high q ≡ (eqb j q || in_set low high q)
    step (yes l) =
        in_low (bit_or low (1 * 2 ^ j % 2 ^ 64)) high q l ∙ has_with 64 low j q h ∙ ap (λ (b : Bool). eqb j q || b) (sym (in_low low high q l))
    step (no l) =
        in_high (bit_or low (1 * 2 ^ j % 2 ^ 64)) high q (omega arith) ∙ sym (in_high low high q (omega arith))
        ∙ sym (ap (λ (b : Bool). b || in_set low high q) (ne_eqb j q (λ e. omega arith)))

pub with_high : (low high j q : ℕ) → 64 ≤ j → j < max_held → in_set low (bit_or high (1 * 2 ^ (j - 64) % 2 ^ 64)) q ≡ (eqb j q || in_set low high q)
with_high low high j q g h = step (dec_lt q 64)
  where
    step : Dec (q < 64) → in_set low (bit_or high (1 * 2 ^ (j - 64) % 2 ^ 64)) q ≡ (eqb j q || in_set low high q)
    step (yes l) =
        in_low low (bit_or high (1 * 2 ^ (j - 64) % 2 ^ 64)) q l ∙ sym (in_low low high q l)
        ∙ sym (ap (λ (b : Bool). b || in_set low high q) (ne_eqb j q (λ e. omega arith)))
    step (no l) =
        in_high low (bit_or high (1 * 2 ^ (j - 64) % 2 ^ 64)) q (omega arith) ∙ has_with 64 high (j - 64) (q - 64) (omega arith)
        ∙ ap₂ ◌||◌ (same_test (eqb (j - 64) (q - 64)) (eqb j q) to from) (sym (in_high low high q (omega arith)))
      where
        to : T (eqb (j - 64) (q - 64)) → T (eqb j q)
        to t = let e = eqb→eq (j - 64) (q - 64) t in let d : j ≡ q = omega arith in eq→eqb d

        from : T (eqb j q) → T (eqb (j - 64) (q - 64))
        from t = let e = eqb→eq j q t in eq→eqb (ap (λ (x : ℕ). x - 64) e)

pub in_and : (a b c d q : ℕ) → in_set (bit_and a c) (bit_and b d) q ≡ (in_set a b q && in_set c d q)
unfolding in_set
in_and a b c d q = ap₂ (pick (ltb q 64)) (has_and a c q) (has_and b d (q - 64)) ∙ both_ways (ltb q 64) (has a q) (has b (q - 64)) (has c q) (has d (q - 64))
  where
    both_ways : (t u v w x : Bool) → pick t (u && w) (v && x) ≡ (pick t u v && pick t w x)
    both_ways true u v w x = refl
    both_ways false u v w x = refl

-- ---- two words that have a bit in common
common : (x y : ℕ) → x < 2 ^ 64 → T (not (eqb (bit_and x y) 0)) → (i : ℕ) × (i < 64) × T (has x i && has y i)
unfolding has
common x y h t =
    let (i, (l, e)) = some_bit 64 (bit_and x y) (lt_of_le_of_lt (and_le_l x y) h) (neqb→ne (bit_and x y) 0 t) in
    (i, l, subst T (has_and x y i) (eq→eqb e))

sharing : (x y i : ℕ) → T (has x i && has y i) → T (not (eqb (bit_and x y) 0))
sharing x y i h =
    not_T (eqb (bit_and x y) 0) (λ t.
    subst T (has_zero i) (subst (λ (z : ℕ). T (has z i)) (eqb→eq (bit_and x y) 0 t) (subst T (sym (has_and x y i)) h)))

pub meet_is : (a b c d : ℕ) → a < 2 ^ 64 → b < 2 ^ 64 → (not (eqb (bit_and a c) 0) || not (eqb (bit_and b d) 0)) ≡ meets a b c d
unfolding meets
meet_is a b c d ha hb = same_test _ _ to from
  where
    f : ℕ → Bool
    f j = in_set a b j && in_set c d j

    to : T (not (eqb (bit_and a c) 0) || not (eqb (bit_and b d) 0)) → T (any f (below max_held))
    to t = step (or_out (not (eqb (bit_and a c) 0)) (not (eqb (bit_and b d) 0)) t)
      where
        step : T (not (eqb (bit_and a c) 0)) ⊎ T (not (eqb (bit_and b d) 0)) → T (any f (below max_held))
        step (inl u) =
            let (i, l, k) = common a c ha u in
            any_in f {x = i} (below_in max_held (omega arith)) (subst T (sym (ap₂ ◌&&◌ (in_low a b i l) (in_low c d i l))) k)
        step (inr u) =
            let (i, l, k) = common b d hb u in
            let e : 64 + i - 64 ≡ i = omega arith in
            any_in f {x = 64 + i} (below_in max_held (omega arith))
            (subst T (sym (ap₂ ◌&&◌ (in_high a b (64 + i) (omega arith) ∙ ap (has b) e) (in_high c d (64 + i) (omega arith) ∙ ap (has d) e))) k)

    from : T (any f (below max_held)) → T (not (eqb (bit_and a c) 0) || not (eqb (bit_and b d) 0))
    from t = let (j, m, k) = any_out f (below max_held) t in step j k (dec_lt j 64)
      where
        step : (j : ℕ) → T (f j) → Dec (j < 64) → T (not (eqb (bit_and a c) 0) || not (eqb (bit_and b d) 0))
        step j k (yes l) = or_l (not (eqb (bit_and a c) 0)) (not (eqb (bit_and b d) 0)) (sharing a c j (subst T (ap₂ ◌&&◌ (in_low a b j l) (in_low c d j l)) k))
        step j k (no l) =
            or_r (not (eqb (bit_and a c) 0)) (not (eqb (bit_and b d) 0))
            (sharing b d (j - 64) (subst T (ap₂ ◌&&◌ (in_high a b j (omega arith)) (in_high c d j (omega arith))) k))

-- ---- a mask of 32 acceptors
pub both : (a b : Bool) → (a && b) ≡ true → (a ≡ true) × (b ≡ true)
both true b e = (refl, e)
both false true e = (e, refl)
both false false e = (e, e)

-- what two sets have, their common part has
pub in_both : {x : Bool} (y z : Bool) → x ≡ (y && z) → T y → T z → T x
in_both y z e s t = subst T (sym e) (and_in y z s t)
