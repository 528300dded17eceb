-- How many elements of a list pass a test.
use mathlib.Core.Path.{◌≡◌, refl, subst}
use mathlib.Core.Bool.{Bool, true, false, not}
use mathlib.Core.List.Memᴰ
use mathlib.Core.List.{List, [], ◌∷◌}
use Prim.Native.Nat.{ℕ, zero, suc, ◌+◌, ◌≤◌, ◌<◌, zero-le}
use native.Mathlib.Omega.{arith}
use lib.ListN.{length}
use lib.Dec.{T}
use Rattle.base.specs.Tests.{◌∈◌, pick, filter, below}

module _ {A : Type 0} where
  pub count_yes : (f : A → Bool) (x : A) (l : List A) → T (f x) → length (filter f (x ∷ l)) ≡ suc (length (filter f l))
  unfolding filter
  count_yes f x l h = step (f x) h
    where
      step : (b : Bool) → T b → length (pick b (x ∷ filter f l) (filter f l)) ≡ suc (length (filter f l))
      step true h = refl
      step false h = absurd h

  pub count_no : (f : A → Bool) (x : A) (l : List A) → T (not (f x)) → length (filter f (x ∷ l)) ≡ length (filter f l)
  unfolding filter
  count_no f x l h = step (f x) h
    where
      step : (b : Bool) → T (not b) → length (pick b (x ∷ filter f l) (filter f l)) ≡ length (filter f l)
      step true h = absurd h
      step false h = refl

  -- where what passes f passes g, at most as many pass f; and fewer, where some element passes g alone
  both : (a b : Bool) (x : A) (k l : List A) (d : ℕ) → (T a → T b) → d + length k ≤ length l → d + length (pick a (x ∷ k) k) ≤ length (pick b (x ∷ l) l)
  both true true x k l d f h = omega arith
  both true false x k l d f h = absurd (f tt)
  both false true x k l d f h = omega arith
  both false false x k l d f h = h

  count_most : (f g : A → Bool) (l : List A) → ((x : A) → x ∈ l → T (f x) → T (g x)) → 0 + length (filter f l) ≤ length (filter g l)
  unfolding filter
  count_most f g [] h = omega arith
  count_most f g (x ∷ l) h = both (f x) (g x) x (filter f l) (filter g l) 0 (h x (Memᴰ.head refl)) (count_most f g l (λ y m. h y (Memᴰ.tail m)))

  count_fewer : (f g : A → Bool) {x : A} {l : List A} → x ∈ l → ((y : A) → y ∈ l → T (f y) → T (g y)) → T (not (f x)) → T (g x) → 1 + length (filter f l) ≤ length (filter g l)
  unfolding filter
  count_fewer f g (Memᴰ.head {x = y} {xs = ys} e) h n t =
      let n' : T (not (f y)) = subst (λ (z : A). T (not (f z))) e n in
      let t' : T (g y) = subst (λ (z : A). T (g z)) e t in
      omega (arith, count_no f y ys n', count_yes g y ys t', count_most f g ys (λ z m. h z (Memᴰ.tail m)))
  count_fewer f g (Memᴰ.tail {x = y} {xs = ys} m) h n t =
      both (f y) (g y) y (filter f ys) (filter g ys) 1 (h y (Memᴰ.head refl)) (count_fewer f g m (λ z k. h z (Memᴰ.tail k)) n t)

  pub count_more : (f g : A → Bool) {x : A} {l : List A} → x ∈ l → ((y : A) → y ∈ l → T (f y) → T (g y)) → T (not (f x)) → T (g x) → length (filter f l) < length (filter g l)
  count_more f g m h n t = omega (arith, count_fewer f g m h n t)

  pub count_some : (f : A → Bool) {x : A} {l : List A} → x ∈ l → T (f x) → 0 < length (filter f l)
  count_some f m t = omega (arith, count_more (λ y. false) f m (λ y k h. absurd h) tt t)

pub count_below : (f : ℕ → Bool) (n : ℕ) → length (filter f (below n)) ≤ n
unfolding filter below
count_below f zero = zero-le
count_below f (suc n) = step (f n) (count_below f n)
  where
    step : (b : Bool) → length (filter f (below n)) ≤ n → length (pick b (n ∷ filter f (below n)) (filter f (below n))) ≤ suc n
    step true h = omega arith
    step false h = omega arith
