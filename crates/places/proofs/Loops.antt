-- What one more turn of a loop adds, and what a loop has made at its end.
use mathlib.Core.Path.{◌≡◌, refl, sym, ap, ap₂, ◌∙◌, subst}
use mathlib.Core.Bool.{Bool, true, false, ◌&&◌, ◌||◌}
use mathlib.Core.List.{List, [], ◌∷◌, ◌++◌}
use Prim.Native.Nat.{ℕ, ◌+◌, ◌≤◌, ◌<◌}
use native.Mathlib.Numerals.{add-one}
use native.Mathlib.Decide.{ℕ_discrete}
use native.Mathlib.Omega.{arith}
use lib.Dec.{T, eqb, ltb, eqb→eq, eqb_refl, ltb→lt, lt→ltb, not_T}
use lib.ListN.{length, get_or, take, set}
use lib.Seq.{take-suc, get_or-set_same, get_or-set_other}
use Rattle.base.specs.Tests.{any, below}
use Rattle.base.proofs.Tests.{same_test, not_true, and_l, and_r, and_in, any_in, any_out, below_in, below_out}
use Rattle.places.specs.Inside.PlaceSets.{in_set, Covers}

-- ---- over the numbers below a bound
pub any_suc : (f : ℕ → Bool) (i : ℕ) → any f (below (i + 1)) ≡ (f i || any f (below i))
unfolding any below
any_suc f i = ap (λ (n : ℕ). any f (below n)) (add-one i)

pub any_again : (f : ℕ → Bool) (j : ℕ) (r found : Bool) → r ≡ f j → found ≡ any f (below j) → (r || found) ≡ any f (below (j + 1))
any_again f j r found e h = ap₂ ◌||◌ e h ∙ sym (any_suc f j)

pub any_done : (f : ℕ → Bool) (j n : ℕ) → j ≤ n → n ≤ j → any f (below j) ≡ any f (below n)
any_done f j n l g = let e : j ≡ n = omega arith in ap (λ (k : ℕ). any f (below k)) e

pub any_none : (f : ℕ → Bool) (n : ℕ) → ((j : ℕ) → j < n → T (f j) → ⊥) → any f (below n) ≡ false
any_none f n h = not_true (any f (below n)) (not_T (any f (below n)) (λ t. let (j, m, k) = any_out f (below n) t in h j (below_out n m) k))

-- a place that is not in a set that covers the test fails it
pub not_covered : (n : ℕ) (f : ℕ → Bool) (low high q : ℕ) → Covers n f low high → q < n → in_set low high q ≡ false → f q ≡ false
not_covered n f low high q cover l e = not_true (f q) (not_T (f q) (λ t. subst T e (cover q l t)))

-- a number put into a set where the test passes
pub put_again : (test : ℕ → Bool) (key : ℕ → ℕ) (j p : ℕ) (on x y : Bool) → x ≡ ((on && eqb (key j) p) || y) → on ≡ test j
    → y ≡ any (λ i. test i && eqb (key i) p) (below j) → x ≡ any (λ i. test i && eqb (key i) p) (below (j + 1))
put_again test key j p on x y e o h = e ∙ any_again (λ i. test i && eqb (key i) p) j (on && eqb (key j) p) y (ap (λ (b : Bool). b && eqb (key j) p) o) h

-- what is put in by its own number
pub any_at : (f : ℕ → Bool) (n q : ℕ) → any (λ j. f j && eqb j q) (below n) ≡ (ltb q n && f q)
any_at f n q = same_test _ _ to from
  where
    to : T (any (λ j. f j && eqb j q) (below n)) → T (ltb q n && f q)
    to t =
        let (j, m, k) = any_out (λ j. f j && eqb j q) (below n) t in
        let e : j ≡ q = eqb→eq j q (and_r (f j) (eqb j q) k) in
        and_in (ltb q n) (f q) (lt→ltb q n (subst (λ (i : ℕ). i < n) e (below_out n m))) (subst (λ (i : ℕ). T (f i)) e (and_l (f j) (eqb j q) k))

    from : T (ltb q n && f q) → T (any (λ j. f j && eqb j q) (below n))
    from t = any_in (λ j. f j && eqb j q) {x = q} (below_in n (ltb→lt q n (and_l (ltb q n) (f q) t))) (and_in (f q) (eqb q q) (and_r (ltb q n) (f q) t) (eqb_refl q))

-- ---- an array filled entry by entry
pub each_more : (P : ℕ → ℕ → Type 0) (l : List ℕ) (i x : ℕ) → i < length l → ((j : ℕ) → j < i → P j (get_or l j 0)) → P i x → (j : ℕ) → j < i + 1 → P j (get_or (set l i x) j 0)
each_more P l i x size old new j h = step (ℕ_discrete j i)
  where
    step : Dec (j ≡ i) → P j (get_or (set l i x) j 0)
    step (yes e) = subst (λ (k : ℕ). P k (get_or (set l i x) k 0)) (sym e) (subst (P i) (sym (get_or-set_same l i x 0 size)) new)
    step (no e) = subst (P j) (sym (get_or-set_other l i j x 0 e)) (old j (omega arith))

-- ---- over a list, front to back
any_snoc : (f : ℕ → Bool) (l : List ℕ) (x : ℕ) → any f (l ++ (x ∷ [])) ≡ (f x || any f l)
unfolding any
any_snoc f [] x = refl
any_snoc f (y ∷ l) x = ap (λ (b : Bool). f y || b) (any_snoc f l x) ∙ turn (f y) (f x) (any f l)
  where
    turn : (a b c : Bool) → (a || (b || c)) ≡ (b || (a || c))
    turn true true c = refl
    turn true false c = refl
    turn false b c = refl

pub any_take : (f : ℕ → Bool) (l : List ℕ) (i : ℕ) → i < length l → any f (take (i + 1) l) ≡ (f (get_or l i 0) || any f (take i l))
any_take f l i h = ap (λ (n : ℕ). any f (take n l)) (add-one i) ∙ ap (any f) (take-suc l i 0 h) ∙ any_snoc f (take i l) (get_or l i 0)
