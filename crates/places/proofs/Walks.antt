-- A walk over a set of places, lowest first: the first place of a set, the set without it, and what is left of a walk.
use mathlib.Core.Path.{◌≡◌, refl, sym, ap, ap₂, subst, ◌∙◌}
use mathlib.Core.Bool.{Bool, false, not, ◌&&◌}
use mathlib.Core.List.{List, [], ◌∷◌}
use Prim.Native.Nat.{ℕ, zero, suc, ◌+◌, ◌-◌, ◌*◌, ◌/◌, ◌%◌, ◌^◌, ◌≤◌, ◌<◌, min}
use native.Mathlib.Nat.{mod-lt, pow-suc}
use native.Mathlib.Decide.{ℕ_discrete, dec_lt}
use native.Mathlib.Omega.{arith}
use borrow.Author.Tests.{eqb-false, eq-eqb, ne_eqb}
use lib.Bits.{bit_and}
use lib.Count.{count_trailing_zeros, under, trailing_of_zero, trailing_le}
use lib.Dec.{T, eqb, eqb→eq}
use Rattle.base.specs.Sets.{has}
use Rattle.base.proofs.Tests.{same_test, eq→eqb, and_cong}
use Rattle.base.proofs.Bits.{bit, bit_suc, some_bit}
use Rattle.base.proofs.Sets.{has_and, has_below}
use Rattle.base.specs.Tests.{pick}
use Rattle.places.specs.Inside.PlaceSets.{in_set, NoneBelow, First, Dropped, members}
use Rattle.places.proofs.Membership.{has_zero, in_low, in_high, in_zero, and_on, and_off}
use Rattle.round.proofs.Joined.{is_true}
use Rattle.round.specs.Limits.{max_held}

-- ---- one word: its lowest bit that is set, and the bits below it
none_trailing : (k x i : ℕ) → i < count_trailing_zeros k x → bit x i ≡ 0
unfolding count_trailing_zeros
none_trailing zero x i h = absurd (omega arith)
none_trailing (suc k) x i h = go (x % 2) refl i (none_trailing k (x / 2)) h
  where
    go : (d : ℕ) → x % 2 ≡ d → (i : ℕ) → ((i : ℕ) → i < count_trailing_zeros k (x / 2) → bit (x / 2) i ≡ 0) → i < under d (count_trailing_zeros k (x / 2)) → bit x i ≡ 0
    go zero e zero rest l = let z : x / 1 % 2 ≡ 0 = omega arith in z
    go zero e (suc i) rest l = bit_suc x i ∙ rest i (omega arith)
    go (suc d) e i rest l = absurd (omega arith)

trailing_set : (k x : ℕ) → x < 2 ^ k → (x ≡ 0 → ⊥) → bit x (count_trailing_zeros k x) ≡ 1
unfolding count_trailing_zeros
trailing_set zero x h some = absurd (some (omega arith))
trailing_set (suc k) x h some = go (x % 2) refl (trailing_set k (x / 2))
  where
    h' : x < 2 ^ k * 2
    h' = rw pow-suc at h

    go : (d : ℕ) → x % 2 ≡ d → (x / 2 < 2 ^ k → (x / 2 ≡ 0 → ⊥) → bit (x / 2) (count_trailing_zeros k (x / 2)) ≡ 1)
        → bit x (under d (count_trailing_zeros k (x / 2))) ≡ 1
    go zero e rest = bit_suc x (count_trailing_zeros k (x / 2)) ∙ rest (let l = h' in omega arith) (λ z. some (omega arith))
    go (suc d) e rest = let o : x / 1 % 2 ≡ 1 = omega arith in o

-- one less: this bit falls away, and those above it stay
abbrev NoBitBelow : ℕ → ℕ → Type 0
NoBitBelow x t = (i : ℕ) → i < t → bit x i ≡ 0

half_none : (x t : ℕ) → NoBitBelow x (suc t) → NoBitBelow (x / 2) t
half_none x t none i l = sym (bit_suc x i) ∙ none (suc i) (omega arith)

half_less : (x t q : ℕ) → NoBitBelow x (suc t) → bit (x - 1) (suc q) ≡ bit (x / 2 - 1) q
half_less x t q none =
    let z : x / 1 % 2 ≡ 0 = none 0 (omega arith) in
    let h : (x - 1) / 2 ≡ x / 2 - 1 = omega arith in
    bit_suc (x - 1) q ∙ ap (λ (y : ℕ). bit y q) h

less_at : (t x : ℕ) → bit x t ≡ 1 → NoBitBelow x t → bit (x - 1) t ≡ 0
less_at zero x e none = let o : x / 1 % 2 ≡ 1 = e in let z : (x - 1) / 1 % 2 ≡ 0 = omega arith in z
less_at (suc t) x e none = half_less x t t none ∙ less_at t (x / 2) (sym (bit_suc x t) ∙ e) (half_none x t none)

less_above : (t x q : ℕ) → bit x t ≡ 1 → NoBitBelow x t → t < q → bit (x - 1) q ≡ bit x q
less_above t x zero e none l = absurd (omega arith)
less_above zero x (suc q) e none l =
    let o : x / 1 % 2 ≡ 1 = e in
    let h : (x - 1) / 2 ≡ x / 2 = omega arith in
    bit_suc (x - 1) q ∙ ap (λ (y : ℕ). bit y q) h ∙ sym (bit_suc x q)
less_above (suc t) x (suc q) e none l =
    half_less x t q none ∙ less_above t (x / 2) q (sym (bit_suc x t) ∙ e) (half_none x t none) (omega arith) ∙ sym (bit_suc x q)

bit_set : (x i : ℕ) → bit x i ≡ 1 → T (has x i)
unfolding has
bit_set x i e = eq→eqb e

not_bit_set : (x i : ℕ) → has x i ≡ false → bit x i ≡ 0
unfolding has
not_bit_set x i e = let d = eqb-false (bit x i) 1 e in let l = mod-lt (x / 2 ^ i) {m = 2} (omega arith) in omega arith

-- `x & (x - 1)`
has_dropped : (x t q : ℕ) → T (has x t) → ((i : ℕ) → i < t → has x i ≡ false) → has (bit_and x (x - 1)) q ≡ (has x q && not (eqb q t))
unfolding has
has_dropped x t q m none = has_and x (x - 1) q ∙ and_cong (has x q) (has (x - 1) q) (not (eqb q t)) (λ u. step u (dec_lt q t) (ℕ_discrete q t))
  where
    none_set : NoBitBelow x t
    none_set i l = not_bit_set x i (none i l)

    step : T (has x q) → Dec (q < t) → Dec (q ≡ t) → has (x - 1) q ≡ not (eqb q t)
    step u (yes l) d = absurd (subst T (none q l) u)
    step u (no l) (yes e) =
        let z : bit (x - 1) q ≡ 0 = ap (λ (y : ℕ). bit (x - 1) y) e ∙ less_at t x (eqb→eq (bit x t) 1 m) none_set in
        ap (λ (y : ℕ). eqb y 1) z ∙ sym (ap not (eq-eqb q t e))
    step u (no l) (no e) = ap (λ (y : ℕ). eqb y 1) (less_above t x q (eqb→eq (bit x t) 1 m) none_set (omega arith) ∙ eqb→eq (bit x q) 1 u) ∙ sym (ap not (ne_eqb q t e))

-- ---- the first place of a set: the lowest one of the low word, and of the high word where the low one is empty
none_trailed : (x q : ℕ) → q < count_trailing_zeros 64 x → has x q ≡ false
unfolding has
none_trailed x q l = ap (λ (y : ℕ). eqb y 1) (none_trailing 64 x q l)

trailed : (x : ℕ) → x < 2 ^ 64 → (x ≡ 0 → ⊥) → T (has x (count_trailing_zeros 64 x))
trailed x h some = bit_set x (count_trailing_zeros 64 x) (trailing_set 64 x h some)

module _ (n low high r : ℕ) where
  pub first_low : low < 2 ^ 64 → (low ≡ 0 → ⊥) → r ≡ min (count_trailing_zeros 64 low) n → First n low high r
  first_low h some e = record { bound = omega arith; none = none; member = member }
    where
      none : NoneBelow low high r
      none q l = let u = trailing_le 64 low in in_low low high q (omega arith) ∙ none_trailed low q (omega arith)

      member : r < n → T (in_set low high r)
      member l =
          let d : count_trailing_zeros 64 low ≡ r = omega arith in
          let t : T (has low r) = subst (λ (y : ℕ). T (has low y)) d (trailed low h some) in
          subst T (sym (in_low low high r (has_below 64 low r h t))) t

  pub first_high : high < 2 ^ 64 → n ≤ max_held → low ≡ 0 → r ≡ min (count_trailing_zeros 64 high + 64) n → First n low high r
  first_high h few z e = record { bound = omega arith; none = λ q l. none q l (dec_lt q 64); member = member }
    where
      none : (q : ℕ) → q < r → Dec (q < 64) → in_set low high q ≡ false
      none q l (yes d) = in_low low high q d ∙ ap (λ (y : ℕ). has y q) z ∙ has_zero q
      none q l (no d) = in_high low high q (omega arith) ∙ none_trailed high (q - 64) (omega arith)

      member : r < n → T (in_set low high r)
      member l =
          let d : count_trailing_zeros 64 high ≡ r - 64 = omega arith in
          let some : high ≡ 0 → ⊥ = λ y. let u = ap (count_trailing_zeros 64) y ∙ trailing_of_zero 64 in omega arith in
          subst T (sym (in_high low high r (omega arith))) (subst (λ (y : ℕ). T (has high y)) d (trailed high h some))

-- ---- the set without it
module _ (low high : ℕ) where
  pub dropped_low : low < 2 ^ 64 → (low ≡ 0 → ⊥) → Dropped low high (bit_and low (low - 1)) high
  dropped_low h some f m none q = step (dec_lt q 64)
    where
      -- the low word has a place, and none below f
      in_word : f < 64
      in_word = go (some_bit 64 low h some) (dec_lt f 64)
        where
          go : (i : ℕ) × ((i < 64) × (bit low i ≡ 1)) → Dec (f < 64) → f < 64
          go s (yes l) = l
          go (i, (l, e)) (no d) = absurd (subst T (sym (in_low low high i l) ∙ none i (omega arith)) (bit_set low i e))

      step : Dec (q < 64) → in_set (bit_and low (low - 1)) high q ≡ (in_set low high q && not (eqb q f))
      step (yes l) =
          in_low (bit_and low (low - 1)) high q l
          ∙ has_dropped low f q (subst T (in_low low high f in_word) m) (λ i d. let w = in_word in sym (in_low low high i (omega arith)) ∙ none i d)
          ∙ ap (λ (b : Bool). b && not (eqb q f)) (sym (in_low low high q l))
      step (no l) =
          in_high (bit_and low (low - 1)) high q (omega arith) ∙ sym (in_high low high q (omega arith))
          ∙ sym (and_on (in_set low high q) (not (eqb q f)) (ap not (ne_eqb q f (λ e. let w = in_word in omega arith))))

  pub dropped_high : low ≡ 0 → Dropped low high low (bit_and high (high - 1))
  dropped_high z f m none q = step (dec_lt q 64)
    where
      in_word : 64 ≤ f
      in_word = go (dec_lt f 64)
        where
          go : Dec (f < 64) → 64 ≤ f
          go (yes l) = absurd (subst T (in_low low high f l ∙ ap (λ (y : ℕ). has y f) z ∙ has_zero f) m)
          go (no l) = omega arith

      below_none : (i : ℕ) → i < f - 64 → has high i ≡ false
      below_none i l =
          let e : 64 + i - 64 ≡ i = omega arith in
          sym (in_high low high (64 + i) (omega arith) ∙ ap (has high) e) ∙ none (64 + i) (omega arith)

      step : Dec (q < 64) → in_set low (bit_and high (high - 1)) q ≡ (in_set low high q && not (eqb q f))
      step (yes l) =
          in_low low (bit_and high (high - 1)) q l ∙ sym (in_low low high q l)
          ∙ sym (and_on (in_set low high q) (not (eqb q f)) (ap not (ne_eqb q f (λ e. let w = in_word in omega arith))))
      step (no l) =
          in_high low (bit_and high (high - 1)) q (omega arith)
          ∙ has_dropped high (f - 64) (q - 64) (subst T (in_high low high f in_word) m) below_none
          ∙ ap₂ (λ (a b : Bool). a && not b) (sym (in_high low high q (omega arith))) (same_test (eqb (q - 64) (f - 64)) (eqb q f) to from)
        where
          to : T (eqb (q - 64) (f - 64)) → T (eqb q f)
          to t = let w = in_word in let e = eqb→eq (q - 64) (f - 64) t in let d : q ≡ f = omega arith in eq→eqb d

          from : T (eqb q f) → T (eqb (q - 64) (f - 64))
          from t = eq→eqb (ap (λ (x : ℕ). x - 64) (eqb→eq q f t))

  pub dropped_none : low ≡ 0 → high ≡ 0 → Dropped low high low high
  dropped_none z y f m none q = absurd (subst T (ap₂ (λ (a b : ℕ). in_set a b f) z y ∙ in_zero f) m)

-- ---- from place j to r the walk passes over no place of its set
abbrev pub Passed : ℕ → ℕ → ℕ → ℕ → ℕ → Type 0
Passed n low high j r = (j ≤ r) × ((r ≤ n) × ((q : ℕ) → j ≤ q → q < r → in_set low high q ≡ false))

-- ---- the places that a walk goes over

module _ (low high : ℕ) where
  -- it passes over what is not in the set,
  members_skip : (a d k m j : ℕ) → m ≡ d + k → j ≡ a + d → ((q : ℕ) → a ≤ q → q < j → in_set low high q ≡ false) → members low high a m ≡ members low high j k
  unfolding members
  members_skip a zero k m j e f none = ap₂ (members low high) (omega arith) (omega arith)
  members_skip a (suc d) k zero j e f none = absurd (omega arith)
  members_skip a (suc d) k (suc m) j e f none =
      ap (λ (b : Bool). pick b (a ∷ members low high (a + 1) m) (members low high (a + 1) m)) (none a (omega arith) (omega arith))
      ∙ members_skip (a + 1) d k m j (omega arith) (omega arith) (λ q u l. none q (omega arith) l)

  -- and gives what is
  members_here : (j k m : ℕ) → m ≡ k + 1 → T (in_set low high j) → members low high j m ≡ j ∷ members low high (j + 1) k
  unfolding members
  members_here j k zero e t = absurd (omega arith)
  members_here j k (suc m) e t =
      ap (λ (b : Bool). pick b (j ∷ members low high (j + 1) m) (members low high (j + 1) m)) (is_true (in_set low high j) t) ∙ ap (λ (z : ℕ). j ∷ members low high (j + 1) z) (omega arith)

  members_none : (j n : ℕ) → n ≤ j → ((q : ℕ) → q < j → in_set low high q ≡ false) → members low high 0 n ≡ []
  unfolding members
  members_none j n h none = members_skip 0 n 0 n n (omega arith) (omega arith) (λ q u l. none q (omega arith))

members_same : (low high low' high' j k : ℕ) → ((q : ℕ) → j ≤ q → in_set low high q ≡ in_set low' high' q) → members low high j k ≡ members low' high' j k
unfolding members
members_same low high low' high' j zero same = refl
members_same low high low' high' j (suc k) same =
    ap₂ (λ (b : Bool) (l : List ℕ). pick b (j ∷ l) l) (same j (omega arith)) (members_same low high low' high' (j + 1) k (λ q u. same q (omega arith)))

module _ (n low high low' high' j : ℕ) (first : First n low high j) where
  pub goes_on : j < n → Dropped low high low' high' → members low high 0 n ≡ j ∷ members low' high' 0 n
  goes_on l drop =
      members_skip low high 0 j (n - j) n j (omega arith) (omega arith) (λ q u h. first.none q h)
      ∙ members_here low high j (n - j - 1) (n - j) (omega arith) (first.member l)
      ∙ ap (λ (z : List ℕ). j ∷ z)
      (members_same low high low' high' (j + 1) (n - j - 1) later ∙ sym (members_skip low' high' 0 (j + 1) (n - j - 1) n (j + 1) (omega arith) (omega arith) (λ q u h. gone' q h)))
    where
      without' : (q : ℕ) → in_set low' high' q ≡ (in_set low high q && not (eqb q j))
      without' = drop j (first.member l) first.none

      later : (q : ℕ) → j + 1 ≤ q → in_set low high q ≡ in_set low' high' q
      later q u = sym (without' q ∙ and_on (in_set low high q) (not (eqb q j)) (ap not (ne_eqb q j (λ e. omega arith))))

      gone' : (q : ℕ) → q < j + 1 → in_set low' high' q ≡ false
      gone' q h = without' q ∙ step (ℕ_discrete q j)
        where
          step : Dec (q ≡ j) → (in_set low high q && not (eqb q j)) ≡ false
          step (yes e) = and_off (in_set low high q) (not (eqb q j)) (ap not (eq-eqb q j e))
          step (no e) = ap (λ (b : Bool). b && not (eqb q j)) (first.none q (omega arith))

  pub goes_out : n ≤ j → members low high 0 n ≡ []
  goes_out h = members_none low high j n h first.none
