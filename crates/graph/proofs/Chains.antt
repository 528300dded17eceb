-- What a chain answers, in the words of the tests: `any` and `all` over a list, and `all` over the numbers below n.
use mathlib.Core.Path.{◌≡◌, refl, ap, subst}
use mathlib.Core.Bool.{Bool, ◌&&◌, ◌||◌}
use mathlib.Core.List.{List, [], ◌∷◌}
use Prim.Native.Nat.{ℕ, zero, suc, ◌+◌, ◌<◌}
use native.Mathlib.Nat.{zero-add}
use native.Mathlib.Omega.{arith}
use lib.Dec.{T}
use Rattle.std.specs.List.{list_any, list_all, range_with_len}
use Rattle.base.specs.Tests.{any, all, below}
use Rattle.base.proofs.Tests.{and_in, and_l, and_r, all_in, all_out, below_in, below_out, same_test}

module _ {A : Type 0} (f : A → Bool) where
  pub any_chain : (l : List A) → list_any f l ≡ any f l
  unfolding any
  any_chain [] = refl
  any_chain (x ∷ l) = ap (λ (b : Bool). f x || b) (any_chain l)

  pub all_chain : (l : List A) → list_all f l ≡ all f l
  unfolding all
  all_chain [] = refl
  all_chain (x ∷ l) = ap (λ (b : Bool). f x && b) (all_chain l)

module _ (f : ℕ → Bool) where
  range_out : (a n i : ℕ) → i < n → T (list_all f (range_with_len a n)) → T (f (a + i))
  range_out a zero i h k = absurd (omega arith)
  range_out a (suc n) zero h k = let e : a ≡ a + 0 = omega arith in subst (λ (j : ℕ). T (f j)) e (and_l (f a) _ k)
  range_out a (suc n) (suc i) h k =
      let e : a + 1 + i ≡ a + suc i = omega arith in
      subst (λ (j : ℕ). T (f j)) e (range_out (a + 1) n i (omega arith) (and_r (f a) _ k))

  range_in : (a n : ℕ) → ((j : ℕ) → j < a + n → T (f j)) → T (list_all f (range_with_len a n))
  range_in a zero h = tt
  range_in a (suc n) h = and_in (f a) _ (h a (omega arith)) (range_in (a + 1) n (λ j l. h j (omega arith)))

  pub all_range : (n : ℕ) → list_all f (range_with_len 0 n) ≡ all f (below n)
  all_range n = same_test _ _ to from
    where
      to : T (list_all f (range_with_len 0 n)) → T (all f (below n))
      to h = all_in f (below n) (λ j m. subst (λ (i : ℕ). T (f i)) (zero-add j) (range_out 0 n j (below_out n m) h))

      from : T (all f (below n)) → T (list_all f (range_with_len 0 n))
      from h = range_in 0 n (λ j l. all_out f (below_in n (omega arith)) h)
