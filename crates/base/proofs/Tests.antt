-- Laws of the tests over lists: what a passed test says, and how to pass one.
use mathlib.Core.Path.{◌≡◌, refl, sym, ap, ap₂, ◌∙◌, subst}
use mathlib.Core.Logic.{◌⊎◌, inl, inr, ◌≢◌}
use mathlib.Core.Bool.{Bool, true, false, not, ◌&&◌, ◌||◌, beq}
use mathlib.Core.List.Memᴰ
use mathlib.Core.List.{List, [], ◌∷◌, map}
use Prim.Native.Nat.{ℕ, zero, suc, ◌+◌, ◌-◌, ◌≤◌, ◌<◌}
use native.Mathlib.Omega.{arith}
use native.Mathlib.Nat.{not-suc-le-zero}
use native.Mathlib.Numerals.{add-one}
use lib.ListN.{length, get_or, take, length-take, drop_of_length-le}
use lib.Seq.{slice, slice-cons}
use lib.Dec.{T, eqb, eqb→eq, eqb_refl, not_T, T_not}
use Rattle.base.specs.Tests.{◌∈◌, pick, any, all, filter, below}

-- ---- tests joined
pub and_in : (a b : Bool) → T a → T b → T (a && b)
and_in true b h k = k
and_in false b h k = h

pub and_l : (a b : Bool) → T (a && b) → T a
and_l true b h = tt
and_l false b h = h

pub and_r : (a b : Bool) → T (a && b) → T b
and_r true b h = h
and_r false b h = absurd h

pub or_l : (a b : Bool) → T a → T (a || b)
or_l true b h = tt
or_l false b h = absurd h

pub or_r : (a b : Bool) → T b → T (a || b)
or_r true b h = tt
or_r false b h = h

pub or_out : (a b : Bool) → T (a || b) → T a ⊎ T b
or_out true b h = inl tt
or_out false b h = inr h

pub dec_T : (b : Bool) → T b ⊎ T (not b)
dec_T true = inl tt
dec_T false = inr tt

-- `a → b` as a test
pub imp_in : (a b : Bool) → (T a → T b) → T (not a || b)
imp_in true b h = h tt
imp_in false b h = tt

pub imp_out : (a b : Bool) → T (not a || b) → T a → T b
imp_out true b h k = h
imp_out false b h k = absurd k

-- two tests are one where each passes if the other does
pub same_test : (a b : Bool) → (T a → T b) → (T b → T a) → a ≡ b
same_test true true f g = refl
same_test true false f g = absurd (f tt)
same_test false true f g = absurd (g tt)
same_test false false f g = refl

-- `a == b` as a test
pub same_beq : (a b : Bool) → a ≡ b → T (beq a b)
same_beq true b e = subst (λ (c : Bool). T (beq true c)) e tt
same_beq false b e = subst (λ (c : Bool). T (beq false c)) e tt

pub beq_same : (a b : Bool) → T (beq a b) → a ≡ b
beq_same true true h = refl
beq_same true false h = absurd h
beq_same false true h = absurd h
beq_same false false h = refl

pub not_true : (b : Bool) → T (not b) → b ≡ false
not_true true h = absurd h
not_true false h = refl

pub eq→eqb : {m n : ℕ} → m ≡ n → T (eqb m n)
eq→eqb {m} {n} e = subst (λ (k : ℕ). T (eqb m k)) e (eqb_refl m)

pub neqb→ne : (m n : ℕ) → T (not (eqb m n)) → m ≢ n
neqb→ne m n h e = T_not (eqb m n) h (eq→eqb e)

pub ne→neqb : (m n : ℕ) → m ≢ n → T (not (eqb m n))
ne→neqb m n h = not_T (eqb m n) (λ t. h (eqb→eq m n t))

-- `if a then b`, with b read only where a holds
pub and_cong : (a b c : Bool) → (T a → b ≡ c) → (a && b) ≡ (a && c)
and_cong true b c h = h tt
and_cong false b c h = refl

module _ {A : Type 0} where
  pub any_in : (f : A → Bool) {x : A} {l : List A} → x ∈ l → T (f x) → T (any f l)
  unfolding any
  any_in f (Memᴰ.head {x = y} {xs = ys} e) h = or_l (f y) (any f ys) (subst (λ (z : A). T (f z)) e h)
  any_in f (Memᴰ.tail {x = y} {xs = ys} m) h = or_r (f y) (any f ys) (any_in f m h)

  pub any_out : (f : A → Bool) (l : List A) → T (any f l) → (x : A) × (x ∈ l) × T (f x)
  unfolding any
  any_out f [] h = absurd h
  any_out f (x ∷ l) h = step (λ (k : T (any f l)). any_out f l k) (or_out (f x) (any f l) h)
    where
      step : (T (any f l) → (y : A) × (y ∈ l) × T (f y)) → T (f x) ⊎ T (any f l) → (y : A) × (y ∈ x ∷ l) × T (f y)
      step rest (inl k) = (x, Memᴰ.head refl, k)
      step rest (inr k) = let (y, m, q) = rest k in (y, Memᴰ.tail m, q)

  pub all_in : (f : A → Bool) (l : List A) → ((x : A) → x ∈ l → T (f x)) → T (all f l)
  unfolding all
  all_in f [] h = tt
  all_in f (x ∷ l) h = and_in (f x) (all f l) (h x (Memᴰ.head refl)) (all_in f l (λ y m. h y (Memᴰ.tail m)))

  pub all_out : (f : A → Bool) {x : A} {l : List A} → x ∈ l → T (all f l) → T (f x)
  unfolding all
  all_out f (Memᴰ.head {x = y} {xs = ys} e) h = subst (λ (z : A). T (f z)) (sym e) (and_l (f y) (all f ys) h)
  all_out f (Memᴰ.tail {x = y} {xs = ys} m) h = all_out f m (and_r (f y) (all f ys) h)

  pub any_cong : (f g : A → Bool) (l : List A) → ((x : A) → x ∈ l → f x ≡ g x) → any f l ≡ any g l
  unfolding any
  any_cong f g [] h = refl
  any_cong f g (x ∷ l) h = λ i. h x (Memᴰ.head refl) i || any_cong f g l (λ y m. h y (Memᴰ.tail m)) i

  pub all_cong : (f g : A → Bool) (l : List A) → ((x : A) → x ∈ l → f x ≡ g x) → all f l ≡ all g l
  unfolding all
  all_cong f g [] h = refl
  all_cong f g (x ∷ l) h = λ i. h x (Memᴰ.head refl) i && all_cong f g l (λ y m. h y (Memᴰ.tail m)) i

  pub filter_cong : (f g : A → Bool) (l : List A) → ((x : A) → x ∈ l → f x ≡ g x) → filter f l ≡ filter g l
  unfolding filter
  filter_cong f g [] h = refl
  filter_cong f g (x ∷ l) h = λ i. pick (h x (Memᴰ.head refl) i) (x ∷ filter_cong f g l (λ y m. h y (Memᴰ.tail m)) i) (filter_cong f g l (λ y m. h y (Memᴰ.tail m)) i)

  pub pick_head : (b : Bool) (x : A) (l : List A) → T b → x ∈ pick b (x ∷ l) l
  pick_head true x l h = Memᴰ.head refl
  pick_head false x l h = absurd h

  pub pick_tail : (b : Bool) (x y : A) (l : List A) → y ∈ l → y ∈ pick b (x ∷ l) l
  pick_tail true x y l m = Memᴰ.tail m
  pick_tail false x y l m = m

  pub pick_out : (b : Bool) (x y : A) (l : List A) → y ∈ pick b (x ∷ l) l → (T b × (y ≡ x)) ⊎ (y ∈ l)
  pick_out true x y l (Memᴰ.head e) = inl (tt, e)
  pick_out true x y l (Memᴰ.tail m) = inr m
  pick_out false x y l m = inr m

  pub filter_in : (f : A → Bool) {x : A} {l : List A} → x ∈ l → T (f x) → x ∈ filter f l
  unfolding filter
  filter_in f (Memᴰ.head {x = y} {xs = ys} e) h = Memᴰ.cast e (pick_head (f y) y (filter f ys) (subst (λ (z : A). T (f z)) e h))
  filter_in f {x} (Memᴰ.tail {x = y} {xs = ys} m) h = pick_tail (f y) y x (filter f ys) (filter_in f m h)

  pub filter_out : (f : A → Bool) {x : A} (l : List A) → x ∈ filter f l → (x ∈ l) × T (f x)
  unfolding filter
  filter_out f [] m = elim m [ ]
  filter_out f {x} (y ∷ l) m = step (λ (k : x ∈ filter f l). filter_out f l k) (pick_out (f y) y x (filter f l) m)
    where
      step : (x ∈ filter f l → (x ∈ l) × T (f x)) → (T (f y) × (x ≡ y)) ⊎ (x ∈ filter f l) → (x ∈ y ∷ l) × T (f x)
      step rest (inl k) = (Memᴰ.head k.1, subst (λ (z : A). T (f z)) (sym k.1) k.0)
      step rest (inr k) = let r = rest k in (Memᴰ.tail r.0, r.1)

  -- a test of some, or of all, of the elements that pass another
  pub any_filter : (f g : A → Bool) (l : List A) → any f (filter g l) ≡ any (λ x. g x && f x) l
  any_filter f g l = same_test _ _ to from
    where
      to : T (any f (filter g l)) → T (any (λ x. g x && f x) l)
      to h =
          let (x, m, k) = any_out f (filter g l) h in
          let (i, j) = filter_out g l m in
          any_in (λ x. g x && f x) i (and_in (g x) (f x) j k)

      from : T (any (λ x. g x && f x) l) → T (any f (filter g l))
      from h =
          let (x, m, k) = any_out (λ x. g x && f x) l h in
          any_in f (filter_in g m (and_l (g x) (f x) k)) (and_r (g x) (f x) k)

  pub all_filter : (f g : A → Bool) (l : List A) → all f (filter g l) ≡ all (λ x. not (g x) || f x) l
  all_filter f g l = same_test _ _ to from
    where
      to : T (all f (filter g l)) → T (all (λ x. not (g x) || f x) l)
      to h = all_in _ _ (λ x m. imp_in (g x) (f x) (λ k. all_out f (filter_in g m k) h))

      from : T (all (λ x. not (g x) || f x) l) → T (all f (filter g l))
      from h = all_in _ _ (λ x m. let (i, j) = filter_out g l m in imp_out (g x) (f x) (all_out (λ x. not (g x) || f x) i h) j)

module _ {A B : Type 0} where
  pub map_in : (f : A → B) {x : A} {l : List A} → x ∈ l → f x ∈ map f l
  map_in f (Memᴰ.head e) = Memᴰ.head (ap f e)
  map_in f (Memᴰ.tail m) = Memᴰ.tail (map_in f m)

  pub any_map : (f : B → Bool) (g : A → B) (l : List A) → any f (map g l) ≡ any (λ x. f (g x)) l
  unfolding any
  any_map f g [] = refl
  any_map f g (x ∷ l) = ap (λ (b : Bool). f (g x) || b) (any_map f g l)

  pub map_out : (f : A → B) (l : List A) {y : B} → y ∈ map f l → (x : A) × (x ∈ l) × (y ≡ f x)
  map_out f [] m = elim m [ ]
  map_out f (x ∷ l) {y} m = step (λ (k : y ∈ map f l). map_out f l k) (Memᴰ.cases_cons m)
    where
      step : (y ∈ map f l → (z : A) × (z ∈ l) × (y ≡ f z)) → (y ≡ f x) ⊎ (y ∈ map f l) → (z : A) × (z ∈ x ∷ l) × (y ≡ f z)
      step rest (inl e) = (x, Memᴰ.head refl, e)
      step rest (inr k) = let (z, i, e) = rest k in (z, Memᴰ.tail i, e)

-- ---- members and entries
-- what is asked of members holds of each entry, and 0 stands behind the last
pub entry_below : (l : List ℕ) (k : ℕ) → 0 < k → ((j : ℕ) → j ∈ l → j < k) → (i : ℕ) → get_or l i 0 < k
entry_below [] k z h i = z
entry_below (x ∷ l) k z h zero = h x (Memᴰ.head refl)
entry_below (x ∷ l) k z h (suc i) = entry_below l k z (λ j m. h j (Memᴰ.tail m)) i

-- ---- the numbers below n
pub below_in : (n : ℕ) {i : ℕ} → i < n → i ∈ below n
unfolding below
below_in zero h = absurd (not-suc-le-zero h)
below_in (suc n) {i} h = step (λ (k : i < n). below_in n k) (dec_T (eqb i n))
  where
    step : (i < n → i ∈ below n) → T (eqb i n) ⊎ T (not (eqb i n)) → i ∈ n ∷ below n
    step rest (inl k) = Memᴰ.head (eqb→eq i n k)
    step rest (inr k) = Memᴰ.tail (rest (omega (arith, neqb→ne i n k)))

pub below_out : (n : ℕ) {i : ℕ} → i ∈ below n → i < n
unfolding below
below_out zero m = elim m [ ]
below_out (suc n) {i} m = step (λ (k : i ∈ below n). below_out n k) (Memᴰ.cases_cons m)
  where
    step : (i ∈ below n → i < n) → (i ≡ n) ⊎ (i ∈ below n) → i < suc n
    step rest (inl e) = omega arith
    step rest (inr k) = let h : i < n = rest k in omega arith

-- ---- tests over the places of a list from i to t, as a loop makes them
module _ (f : ℕ → Bool) (l : List ℕ) (t : ℕ) where
  none_left : (i : ℕ) → t ≤ i → slice i t l ≡ []
  none_left i h = drop_of_length-le (take t l) {i = i} (let e = length-take t l in omega arith)

  pub any_end : (i : ℕ) → t ≤ i → any f (slice i t l) ≡ false
  unfolding any
  any_end i h = ap (any f) (none_left i h)

  pub all_end : (i : ℕ) → t ≤ i → all f (slice i t l) ≡ true
  unfolding all
  all_end i h = ap (all f) (none_left i h)

  pub any_here : (i : ℕ) → i < t → t ≤ length l → f (get_or l i 0) ≡ true → any f (slice i t l) ≡ true
  unfolding any
  any_here i h k e = ap (any f) (slice-cons i t l 0 h k) ∙ ap (λ (b : Bool). b || any f (slice (suc i) t l)) e

  pub any_past : (i : ℕ) → i < t → t ≤ length l → f (get_or l i 0) ≡ false → any f (slice i t l) ≡ any f (slice (i + 1) t l)
  unfolding any
  any_past i h k e =
      ap (any f) (slice-cons i t l 0 h k) ∙ ap (λ (b : Bool). b || any f (slice (suc i) t l)) e ∙ ap (λ (j : ℕ). any f (slice j t l)) (sym (add-one i))

  pub all_here : (i : ℕ) → i < t → t ≤ length l → f (get_or l i 0) ≡ false → all f (slice i t l) ≡ false
  unfolding all
  all_here i h k e = ap (all f) (slice-cons i t l 0 h k) ∙ ap (λ (b : Bool). b && all f (slice (suc i) t l)) e

  pub all_past : (i : ℕ) → i < t → t ≤ length l → f (get_or l i 0) ≡ true → all f (slice i t l) ≡ all f (slice (i + 1) t l)
  unfolding all
  all_past i h k e =
      ap (all f) (slice-cons i t l 0 h k) ∙ ap (λ (b : Bool). b && all f (slice (suc i) t l)) e ∙ ap (λ (j : ℕ). all f (slice j t l)) (sym (add-one i))

-- ---- tests of the numbers below n, as a loop that counts down makes them
module _ (f : ℕ → Bool) where
  pub below_here : (i : ℕ) → 0 < i → f (i - 1) ≡ false → all f (below i) ≡ false
  unfolding all below
  below_here zero h e = absurd (not-suc-le-zero h)
  below_here (suc i) h e = let p : i ≡ suc i - 1 = omega arith in ap (λ (j : ℕ). f j && all f (below i)) p ∙ ap (λ (b : Bool). b && all f (below i)) e

  pub below_past : (i : ℕ) → 0 < i → f (i - 1) ≡ true → all f (below i) ≡ all f (below (i - 1))
  unfolding all below
  below_past zero h e = absurd (not-suc-le-zero h)
  below_past (suc i) h e = let p : i ≡ suc i - 1 = omega arith in
      ap (λ (j : ℕ). f j && all f (below i)) p ∙ ap (λ (b : Bool). b && all f (below i)) e ∙ ap (λ (j : ℕ). all f (below j)) p

-- some element passes f exactly where not every one passes g
pub any_not_all : {A : Type 0} (f g : A → Bool) (l : List A) → ((x : A) → f x ≡ not (g x)) → any f l ≡ not (all g l)
unfolding any all
any_not_all f g [] h = refl
any_not_all f g (x ∷ l) h = ap₂ ◌||◌ (h x) (any_not_all f g l h) ∙ step (g x) (all g l)
  where
    step : (a b : Bool) → (not a || not b) ≡ not (a && b)
    step true b = refl
    step false b = refl
