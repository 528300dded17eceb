-- Laws of sets as masks: what containing and having none in common say. Set operations on masks meet `has` bit by bit.
use mathlib.Core.Path.{◌≡◌, sym, ap, ◌∙◌, subst}
use mathlib.Core.Bool.{Bool, not, ◌&&◌, ◌||◌, beq}
use Prim.Native.Nat.{ℕ, ◌+◌, ◌-◌, ◌/◌, ◌%◌, ◌^◌, ◌<◌, min}
use native.Mathlib.Nat.{mod-lt, div-eq_of_lt, lt_of_le_of_lt, lt_of_lt_of_le}
use native.Mathlib.Decide.{dec_lt, ℕ_discrete}
use native.Mathlib.Omega.{arith}
use lib.Bits.{bit_and, bit_or, and_comm, or_lt, and_le_l}
use lib.Pow.{pow_pos, pow_mono, ones_lt}
use lib.Dec.{T, eqb, eqb→eq, T_not, not_T}
use Rattle.base.specs.Tests.{all, below}
use Rattle.base.specs.Sets.{has, contains, apart}
use Rattle.base.proofs.Tests.{same_test, same_beq, beq_same, eq→eqb, neqb→ne, and_l, and_r, and_in, or_l, or_r, or_out, imp_in, imp_out, all_in, all_out, all_cong, below_in, below_out}
use Rattle.base.proofs.Bits.{bit, ext_below, below_pow, some_bit, and_bit, bit_of_or, or_of_bit, not_bit, high_bit, bit_of_pow, pow_of_bit, every_of_and, and_of_every}
use mathlib.Core.Logic.{◌⊎◌, inl, inr, ◌↔◌}

-- ---- membership in a union, an intersection
pub has_or : (a b p : ℕ) → has (bit_or a b) p ≡ (has a p || has b p)
unfolding has
has_or a b p = same_test _ _ to from
  where
    to : T (eqb (bit (bit_or a b) p) 1) → T (eqb (bit a p) 1 || eqb (bit b p) 1)
    to h = step (bit_of_or a b p (eqb→eq _ _ h))
      where
        step : (bit a p ≡ 1) ⊎ (bit b p ≡ 1) → T (eqb (bit a p) 1 || eqb (bit b p) 1)
        step (inl e) = or_l (eqb (bit a p) 1) (eqb (bit b p) 1) (eq→eqb e)
        step (inr e) = or_r (eqb (bit a p) 1) (eqb (bit b p) 1) (eq→eqb e)

    from : T (eqb (bit a p) 1 || eqb (bit b p) 1) → T (eqb (bit (bit_or a b) p) 1)
    from h = step (or_out (eqb (bit a p) 1) (eqb (bit b p) 1) h)
      where
        step : T (eqb (bit a p) 1) ⊎ T (eqb (bit b p) 1) → T (eqb (bit (bit_or a b) p) 1)
        step (inl k) = eq→eqb (or_of_bit a b p (inl (eqb→eq _ _ k)))
        step (inr k) = eq→eqb (or_of_bit a b p (inr (eqb→eq _ _ k)))

pub has_and : (a b p : ℕ) → has (bit_and a b) p ≡ (has a p && has b p)
unfolding has
has_and a b p = same_test _ _ to from
  where
    to : T (eqb (bit (bit_and a b) p) 1) → T (eqb (bit a p) 1 && eqb (bit b p) 1)
    to h =
        let m : min (bit a p) (bit b p) ≡ 1 = sym (and_bit a b p) ∙ eqb→eq _ _ h in
        let la = mod-lt (a / 2 ^ p) {m = 2} (omega arith) in
        let lb = mod-lt (b / 2 ^ p) {m = 2} (omega arith) in
        let ea : bit a p ≡ 1 = omega arith in
        let eb : bit b p ≡ 1 = omega arith in
        and_in (eqb (bit a p) 1) (eqb (bit b p) 1) (eq→eqb ea) (eq→eqb eb)

    from : T (eqb (bit a p) 1 && eqb (bit b p) 1) → T (eqb (bit (bit_and a b) p) 1)
    from h =
        let ea : bit a p ≡ 1 = eqb→eq _ _ (and_l (eqb (bit a p) 1) (eqb (bit b p) 1) h) in
        let eb : bit b p ≡ 1 = eqb→eq _ _ (and_r (eqb (bit a p) 1) (eqb (bit b p) 1) h) in
        let e : bit (bit_and a b) p ≡ 1 = and_bit a b p ∙ omega arith in
        eq→eqb e

-- ---- containing
abbrev pub Contains : ℕ → (ℕ → Bool) → ℕ → Type 0
Contains n S q = (p : ℕ) → p < n → T (has q p) → T (S p)

pub contains_law : (n : ℕ) (S : ℕ → Bool) (q : ℕ) → T (contains n S q) ↔ Contains n S q
unfolding contains
contains_law n S q = (to, from)
  where
    to : T (contains n S q) → Contains n S q
    to h p l = imp_out (has q p) (S p) (all_out (λ p. not (has q p) || S p) (below_in _ l) h)

    from : Contains n S q → T (contains n S q)
    from h = all_in _ _ (λ p m. imp_in (has q p) (S p) (h p (below_out _ m)))

-- ---- having none in common
abbrev pub Apart : ℕ → (ℕ → Bool) → ℕ → Type 0
Apart n S q = (p : ℕ) → p < n → T (has q p) → T (S p) → ⊥

pub apart_law : (n : ℕ) (S : ℕ → Bool) (q : ℕ) → T (apart n S q) ↔ Apart n S q
unfolding apart
apart_law n S q = (to, from)
  where
    to : T (apart n S q) → Apart n S q
    to h p l x y = T_not (has q p && S p) (all_out (λ p. not (has q p && S p)) (below_in _ l) h) (and_in (has q p) (S p) x y)

    from : Apart n S q → T (apart n S q)
    from f = all_in _ _ (λ p m. not_T (has q p && S p) (λ t. f p (below_out _ m) (and_l (has q p) (S p) t) (and_r (has q p) (S p) t)))

-- equal sets are contained, and apart, alike
pub contains_cong : (n : ℕ) (S R : ℕ → Bool) (q : ℕ) → ((p : ℕ) → p < n → S p ≡ R p) → contains n S q ≡ contains n R q
unfolding contains
contains_cong n S R q e = all_cong _ _ (below n) (λ p m. ap (λ (b : Bool). not (has q p) || b) (e p (below_out n m)))

pub apart_cong : (n : ℕ) (S R : ℕ → Bool) (q : ℕ) → ((p : ℕ) → p < n → S p ≡ R p) → apart n S q ≡ apart n R q
unfolding apart
apart_cong n S R q e = all_cong _ _ (below n) (λ p m. ap (λ (b : Bool). not (has q p && b)) (e p (below_out n m)))

-- ---- masks of k bits: the complement, the numbers below n, a mask that lies within another
module _ (k : ℕ) where
  pub has_not : (x p : ℕ) → x < 2 ^ k → p < k → has (2 ^ k - 1 - x) p ≡ not (has x p)
  unfolding has
  has_not x p h l = step (bit x p) (mod-lt (x / 2 ^ p) {m = 2} (omega arith)) (not_bit k x p h l)
    where
      step : (b : ℕ) → b < 2 → bit (2 ^ k - 1 - x) p ≡ 1 - b → eqb (bit (2 ^ k - 1 - x) p) 1 ≡ not (eqb b 1)
      step b lb e = ap (λ (y : ℕ). eqb y 1) e ∙ same_test _ _ to from
        where
          to : T (eqb (1 - b) 1) → T (not (eqb b 1))
          to t = let q = eqb→eq (1 - b) 1 t in not_T (eqb b 1) (λ u. let r = eqb→eq b 1 u in omega arith)

          from : T (not (eqb b 1)) → T (eqb (1 - b) 1)
          from t = let q = neqb→ne b 1 t in let e : 1 - b ≡ 1 = omega arith in eq→eqb e

-- a number of k bits has no member from k on
pub has_below : (k x p : ℕ) → x < 2 ^ k → T (has x p) → p < k
unfolding has
has_below k x p h t = step (dec_lt p k)
  where
    step : Dec (p < k) → p < k
    step (yes l) = l
    step (no l) = let e = eqb→eq (bit x p) 1 t in let z = high_bit k x p h (omega arith) in absurd (omega arith)

-- a mask that is not 0 has a member
pub some_member : (x : ℕ) → T (not (eqb x 0)) → (p : ℕ) × T (has x p)
unfolding has
some_member x h = let (p, (l, e)) = some_bit x x (below_pow x) (neqb→ne x 0 h) in (p, eq→eqb e)

-- two masks with the same members are one
pub same_members : (x y : ℕ) → ((p : ℕ) → has x p ≡ has y p) → x ≡ y
unfolding has
same_members x y h =
    let lx : x < 2 ^ (x + y) = lt_of_lt_of_le (below_pow x) (pow_mono (omega arith)) in
    let ly : y < 2 ^ (x + y) = lt_of_lt_of_le (below_pow y) (pow_mono (omega arith)) in
    ext_below (x + y) x y lx ly (λ p l. step (bit x p) (bit y p) (mod-lt (x / 2 ^ p) {m = 2} (omega arith)) (mod-lt (y / 2 ^ p) {m = 2} (omega arith)) (h p))
  where
    step : (a b : ℕ) → a < 2 → b < 2 → eqb a 1 ≡ eqb b 1 → a ≡ b
    step a b la lb e = go (ℕ_discrete a 1)
      where
        go : Dec (a ≡ 1) → a ≡ b
        go (yes p) = let q = eqb→eq b 1 (subst T e (eq→eqb p)) in omega arith
        go (no p) = let q : b ≡ 1 → ⊥ = λ r. p (eqb→eq a 1 (subst T (sym e) (eq→eqb r))) in omega arith

-- and where they have none from n on, it is enough to ask the numbers below n
pub same_below : (n x y : ℕ) → ((p : ℕ) → T (has x p) → p < n) → ((p : ℕ) → T (has y p) → p < n) → eqb x y ≡ all (λ p. beq (has x p) (has y p)) (below n)
same_below n x y hx hy = same_test _ _ to from
  where
    to : T (eqb x y) → T (all (λ p. beq (has x p) (has y p)) (below n))
    to t = all_in _ _ (λ p m. same_beq (has x p) (has y p) (ap (λ (z : ℕ). has z p) (eqb→eq x y t)))

    from : T (all (λ p. beq (has x p) (has y p)) (below n)) → T (eqb x y)
    from t = eq→eqb (same_members x y (λ p. step p (dec_lt p n)))
      where
        step : (p : ℕ) → Dec (p < n) → has x p ≡ has y p
        step p (yes l) = beq_same (has x p) (has y p) (all_out (λ p. beq (has x p) (has y p)) (below_in n l) t)
        step p (no l) = same_test _ _ (λ h. absurd (l (hx p h))) (λ h. absurd (l (hy p h)))

-- the mask of the numbers below n
pub first_in : (n p : ℕ) → p < n → T (has (2 ^ n - 1) p)
unfolding has
first_in n p l =
    let z : bit 0 p ≡ 0 = ap (λ (y : ℕ). y % 2) (div-eq_of_lt (pow_pos p)) in
    let e : bit (2 ^ n - 1 - 0) p ≡ 1 = not_bit n 0 p (pow_pos n) l ∙ omega arith in
    let m : 2 ^ n - 1 - 0 ≡ 2 ^ n - 1 = omega arith in
    eq→eqb (ap (λ (y : ℕ). bit y p) (sym m) ∙ e)

pub first_out : (n p : ℕ) → T (has (2 ^ n - 1) p) → p < n
first_out n p t = has_below n (2 ^ n - 1) p (ones_lt n) t

-- a one-element set
pub has_one : (i p : ℕ) → has (2 ^ i) p ≡ eqb p i
unfolding has
has_one i p = same_test _ _ (λ t. eq→eqb (bit_of_pow i p (eqb→eq _ _ t))) (λ t. eq→eqb (pow_of_bit i p (eqb→eq _ _ t)))

-- `q & x == q`: every member of q is one of x
pub within_law : (k x q : ℕ) → x < 2 ^ k → q < 2 ^ k → T (eqb (bit_and q x) q) ↔ ((p : ℕ) → T (has q p) → T (has x p))
unfolding has
within_law k x q hx hq = (to, from)
  where
    to : T (eqb (bit_and q x) q) → (p : ℕ) → T (has q p) → T (has x p)
    to t p m = eq→eqb (every_of_and x q (and_comm x q ∙ eqb→eq _ _ t) p (eqb→eq _ _ m))

    from : ((p : ℕ) → T (has q p) → T (has x p)) → T (eqb (bit_and q x) q)
    from f = eq→eqb (and_comm q x ∙ and_of_every k x q hx hq (λ i e. eqb→eq _ _ (f i (eq→eqb e))))

-- The set of all k-bit masks' members that are below n, or are no number below k: `known` in the laws below.
abbrev pub first_of : ℕ → ℕ → ℕ
first_of k n = 2 ^ min n k - 1

-- containing, asked of masks of k bits: what is not below n counts as in the set
pub contains_mask : (k n x q : ℕ) → x < 2 ^ k → q < 2 ^ k → eqb (bit_and q (bit_or x (2 ^ k - 1 - first_of k n))) q ≡ contains n (has x) q
contains_mask k n x q hx hq = same_test _ _ to from
  where
    w : ℕ
    w = bit_or x (2 ^ k - 1 - first_of k n)

    hf : first_of k n < 2 ^ k
    hf = let a = pow_mono {i = min n k} {j = k} (omega arith) in let b = pow_pos (min n k) in omega arith

    hw : w < 2 ^ k
    hw = or_lt k x (2 ^ k - 1 - first_of k n) hx (let b = pow_pos k in omega arith)

    to : T (eqb (bit_and q w) q) → T (contains n (has x) q)
    to t = (contains_law n (has x) q).1 (λ p l m. step p l m (or_out (has x p) (has (2 ^ k - 1 - first_of k n) p) (subst T (has_or x (2 ^ k - 1 - first_of k n) p) ((within_law k w q hw hq).0 t p m))))
      where
        step : (p : ℕ) → p < n → T (has q p) → T (has x p) ⊎ T (has (2 ^ k - 1 - first_of k n) p) → T (has x p)
        step p l m (inl t) = t
        step p l m (inr t) =
            let lk : p < k = has_below k q p hq m in
            absurd (T_not (has (first_of k n) p) (subst T (has_not k (first_of k n) p hf lk) t) (first_in (min n k) p (omega arith)))

    from : T (contains n (has x) q) → T (eqb (bit_and q w) q)
    from c = (within_law k w q hw hq).1 (λ p m. subst T (sym (has_or x (2 ^ k - 1 - first_of k n) p)) (step p m (dec_lt p n)))
      where
        step : (p : ℕ) → T (has q p) → Dec (p < n) → T (has x p || has (2 ^ k - 1 - first_of k n) p)
        step p m (yes l) = or_l (has x p) (has (2 ^ k - 1 - first_of k n) p) ((contains_law n (has x) q).0 c p l m)
        step p m (no l) =
            let lk : p < k = has_below k q p hq m in
            or_r (has x p) (has (2 ^ k - 1 - first_of k n) p) (subst T (sym (has_not k (first_of k n) p hf lk)) (not_T (has (first_of k n) p) (λ t. let o = first_out (min n k) p t in omega arith)))

-- having none in common, asked of masks of k bits
pub apart_mask : (k n x q : ℕ) → x < 2 ^ k → q < 2 ^ k → eqb (bit_and q (2 ^ k - 1 - bit_and x (first_of k n))) q ≡ apart n (has x) q
apart_mask k n x q hx hq = same_test _ _ to from
  where
    v : ℕ
    v = bit_and x (first_of k n)

    hv : v < 2 ^ k
    hv = lt_of_le_of_lt (and_le_l x (first_of k n)) hx

    hw : 2 ^ k - 1 - v < 2 ^ k
    hw = let b = pow_pos k in omega arith

    to : T (eqb (bit_and q (2 ^ k - 1 - v)) q) → T (apart n (has x) q)
    to t = (apart_law n (has x) q).1 (λ p l m y.
        let lk : p < k = has_below k q p hq m in
        T_not (has v p) (subst T (has_not k v p hv lk) ((within_law k (2 ^ k - 1 - v) q hw hq).0 t p m))
        (subst T (sym (has_and x (first_of k n) p)) (and_in (has x p) (has (first_of k n) p) y (first_in (min n k) p (omega arith)))))

    from : T (apart n (has x) q) → T (eqb (bit_and q (2 ^ k - 1 - v)) q)
    from a = (within_law k (2 ^ k - 1 - v) q hw hq).1 (λ p m.
        let lk : p < k = has_below k q p hq m in
        subst T (sym (has_not k v p hv lk)) (not_T (has v p) (λ t.
        let u = subst T (has_and x (first_of k n) p) t in
        let o = first_out (min n k) p (and_r (has x p) (has (first_of k n) p) u) in
        (apart_law n (has x) q).0 a p (omega arith) m (and_l (has x p) (has (first_of k n) p) u))))
