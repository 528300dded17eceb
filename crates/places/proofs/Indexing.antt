-- Sets of places by a key, and one place more put into the set of its key.
use mathlib.Core.Path.{◌≡◌, sym, ap₂, subst}
use mathlib.Core.Bool.{true, ◌&&◌, ◌||◌}
use mathlib.Core.List.{List}
use Prim.Native.Nat.{ℕ, ◌+◌, ◌<◌}
use native.Mathlib.Decide.{ℕ_discrete}
use native.Mathlib.Omega.{arith}
use lib.Dec.{T, eqb, eqb_refl}
use lib.ListN.{length, set, get_or}
use lib.Seq.{get_or-set_same, get_or-set_other}
use Rattle.base.proofs.Tests.{or_l, or_r}
use Rattle.places.specs.Inside.PlaceSets.{in_set, Indexed, Grown}
use Rattle.round.specs.Limits.{max_held}

module _ (k x y j : ℕ) (low high : List ℕ) (lk : k < length low) (hk : k < length high)
    (put : (q : ℕ) → q < max_held → in_set x y q ≡ ((true && eqb j q) || in_set (get_or low k 0) (get_or high k 0) q)) where
  -- a place put into the set of key k: it is there, and no set has lost a place
  stored : (q : ℕ) → T (in_set x y q) → T (in_set (get_or (set low k x) k 0) (get_or (set high k y) k 0) q)
  stored q t = subst T (sym (ap₂ (λ (a b : ℕ). in_set a b q) (get_or-set_same low k x 0 lk) (get_or-set_same high k y 0 hk))) t

  pub put_here : j < max_held → T (in_set (get_or (set low k x) k 0) (get_or (set high k y) k 0) j)
  put_here l = stored j (subst T (sym (put j l)) (or_l (eqb j j) (in_set (get_or low k 0) (get_or high k 0) j) (eqb_refl j)))

  pub put_grown : Grown low high (set low k x) (set high k y)
  put_grown i q l t = step (ℕ_discrete i k)
    where
      step : Dec (i ≡ k) → T (in_set (get_or (set low k x) i 0) (get_or (set high k y) i 0) q)
      step (yes e) =
          subst (λ (m : ℕ). T (in_set (get_or (set low k x) m 0) (get_or (set high k y) m 0) q)) (sym e)
          (stored q (subst T (sym (put q l)) (or_r (true && eqb j q) (in_set (get_or low k 0) (get_or high k 0) q) (subst (λ (m : ℕ). T (in_set (get_or low m 0) (get_or high m 0) q)) e t))))
      step (no e) = subst T (sym (ap₂ (λ (a b : ℕ). in_set a b q) (get_or-set_other low k i x 0 e) (get_or-set_other high k i y 0 e))) t

-- one more place, put into the set of its key: the other places have the keys that they had
pub indexed_more : (n : ℕ) (key key' : ℕ → ℕ) (low high low' high' : List ℕ) → n < max_held → Grown low high low' high' → ((j : ℕ) → j < n → key' j ≡ key j) → Indexed n key low high
    → T (in_set (get_or low' (key' n) 0) (get_or high' (key' n) 0) n) → Indexed (n + 1) key' low' high'
indexed_more n key key' low high low' high' l grown same old new j h = step (ℕ_discrete j n)
  where
    step : Dec (j ≡ n) → T (in_set (get_or low' (key' j) 0) (get_or high' (key' j) 0) j)
    step (yes e) = subst (λ (i : ℕ). T (in_set (get_or low' (key' i) 0) (get_or high' (key' i) 0) i)) (sym e) new
    step (no e) =
        let d : j < n = omega arith in
        subst (λ (i : ℕ). T (in_set (get_or low' i 0) (get_or high' i 0) j)) (sym (same j d)) (grown (key j) j (omega arith) (old j d))
