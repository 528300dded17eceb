-- Laws of ids that ascend.
use mathlib.Core.Path.{◌≡◌, refl, ap, ap₂, sym, ◌∙◌}
use mathlib.Core.Bool.{Bool, true, false}
use mathlib.Core.List.{List, [], ◌∷◌, ◌++◌}
use Prim.Native.Nat.{ℕ, zero, suc, ◌+◌, ◌*◌, ◌-◌, ◌≤◌, ◌<◌}
use native.Mathlib.Nat.{add_assoc, add-zero}
use native.Mathlib.Omega.{arith}
use lib.Dec.{eqb, ltb, lt→ltb, ltb→lt}
use lib.ListN.{length, get_or, take, drop}
use lib.Seq.{drop-drop, drop_at}
use borrow.Author.Tests.{eqb-true, eqb-false, eq-eqb, ne_eqb, lt-ltb, ltb-true, ltb-false}
use Rattle.base.specs.Tests.{pick}
use Rattle.base.specs.Bytes.{be, part, Octets}
use Rattle.base.proofs.Bytes.{part_suc}
use Rattle.base.proofs.Tests.{same_test}
use Rattle.message.specs.Order.{before, ascending}

-- ids behind k bytes that stand in front
ascending_drop : (n k : ℕ) (s : List ℕ) (at : ℕ) → ascending n s (k + at) ≡ ascending n (drop k s) at
unfolding ascending
ascending_drop zero k s at = refl
ascending_drop (suc n) k s at =
    let e : k + at + 32 ≡ k + (at + 32) = add_assoc k at 32 in
    let p : part 32 s (k + at) ≡ part 32 (drop k s) at = ap (take 32) (sym (drop-drop at k s)) in
    let q : part 32 s (k + at + 32) ≡ part 32 (drop k s) (at + 32) = ap (part 32 s) e ∙ ap (take 32) (sym (drop-drop (at + 32) k s)) in
    let r : ascending n s (k + at + 32) ≡ ascending n (drop k s) (at + 32) = ap (ascending n s) e ∙ ascending_drop n k s (at + 32) in
    λ i. pick (before (p i) (q i)) (r i) false

-- ids at the end of a list
pub ascending_behind : (n : ℕ) (p q : List ℕ) (at : ℕ) → length p ≡ at → ascending n (p ++ q) at ≡ ascending n q 0
ascending_behind n p q at e =
    ap (ascending n (p ++ q)) (sym (add-zero at)) ∙ ascending_drop n at (p ++ q) 0 ∙ ap (λ (x : List ℕ). ascending n x 0) (drop_at p q at e)

-- of ids that ascend, each comes before the next
pub ascending_next : (n : ℕ) (s : List ℕ) (at i : ℕ) → ascending n s at ≡ true → i < n → before (part 32 s (at + 32 * i)) (part 32 s (at + 32 * i + 32)) ≡ true
unfolding ascending
ascending_next zero s at i e h = absurd (omega arith)
ascending_next (suc n) s at i e h = step (before (part 32 s at) (part 32 s (at + 32))) refl e (eqb i 0) refl (λ r l. ascending_next n s (at + 32) (i - 1) r l)
  where
    step : (t : Bool) → before (part 32 s at) (part 32 s (at + 32)) ≡ t → pick t (ascending n s (at + 32)) false ≡ true → (z : Bool) → eqb i 0 ≡ z
        → (ascending n s (at + 32) ≡ true → i - 1 < n → before (part 32 s (at + 32 + 32 * (i - 1))) (part 32 s (at + 32 + 32 * (i - 1) + 32)) ≡ true)
        → before (part 32 s (at + 32 * i)) (part 32 s (at + 32 * i + 32)) ≡ true
    step true q e true z rest = let w = eqb-true i 0 z in let k : at + 32 * i ≡ at = omega arith in ap (λ (x : ℕ). before (part 32 s x) (part 32 s (x + 32))) k ∙ q
    step true q e false z rest =
        let w = eqb-false i 0 z in
        let k : at + 32 + 32 * (i - 1) ≡ at + 32 * i = omega arith in
        ap (λ (x : ℕ). before (part 32 s x) (part 32 s (x + 32))) (sym k) ∙ rest e (omega arith)
    step false q e z w rest = let y : ◌≡◌ {A = ℕ} 0 1 = cc in absurd (omega arith)

-- and ids each of which comes before the next ascend
pub ascending_of : (n : ℕ) (s : List ℕ) (at : ℕ) → ((i : ℕ) → i < n → before (part 32 s (at + 32 * i)) (part 32 s (at + 32 * i + 32)) ≡ true) → ascending n s at ≡ true
unfolding ascending
ascending_of zero s at h = refl
ascending_of (suc n) s at h =
    let k : at ≡ at + 32 * 0 = omega arith in
    let first : before (part 32 s at) (part 32 s (at + 32)) ≡ true = ap (λ (x : ℕ). before (part 32 s x) (part 32 s (x + 32))) k ∙ h 0 (omega arith) in
    let more = ascending_of n s (at + 32) (λ i l. let e : at + 32 + 32 * i ≡ at + 32 * (i + 1) = omega arith in ap (λ (x : ℕ). before (part 32 s x) (part 32 s (x + 32))) e ∙ h (i + 1) (omega arith)) in
    simp (first, more)

-- nothing comes before itself
pub before_irreflexive : (a : List ℕ) → before a a ≡ false
unfolding before
before_irreflexive [] = refl
before_irreflexive (x ∷ a) = simp (eq-eqb x x refl, before_irreflexive a)

-- lists as long as each other are in order one way or the other, or equal
pub before_total : (a b : List ℕ) → length a ≡ length b → before a b ≡ false → before b a ≡ false → a ≡ b
unfolding before
before_total [] [] l p q = refl
before_total [] (y ∷ b) l p q = absurd (omega arith)
before_total (x ∷ a) [] l p q = absurd (omega arith)
before_total (x ∷ a) (y ∷ b) l p q = step (eqb x y) refl p (λ u v. before_total a b (omega arith) u v)
  where
    step : (t : Bool) → eqb x y ≡ t → pick t (before a b) (ltb x y) ≡ false → (before a b ≡ false → before b a ≡ false → a ≡ b) → x ∷ a ≡ y ∷ b
    step true e r rest =
        let w = eqb-true x y e in
        let v : before b a ≡ false = sym (simp (eq-eqb y x (sym w))) ∙ q in
        ap₂ ◌∷◌ w (rest r v)
    step false e r rest =
        let w = eqb-false x y e in
        let v : ltb y x ≡ false = sym (simp (ne_eqb y x (λ z. w (sym z)))) ∙ q in
        let k = ltb-false x y r in
        let m = ltb-false y x v in
        absurd (omega arith)

-- what comes before goes on
pub before_trans : (a b c : List ℕ) → before a b ≡ true → before b c ≡ true → before a c ≡ true
unfolding before
before_trans [] b c p q = p
before_trans (x ∷ a) [] c p q = let z : ◌≡◌ {A = ℕ} 0 1 = cc in absurd (omega arith)
before_trans (x ∷ a) (y ∷ b) [] p q = q
before_trans (x ∷ a) (y ∷ b) (z ∷ c) p q = step (eqb x y) (eqb y z) refl refl p q (λ u v. before_trans a b c u v)
  where
    step : (t u : Bool) → eqb x y ≡ t → eqb y z ≡ u → pick t (before a b) (ltb x y) ≡ true → pick u (before b c) (ltb y z) ≡ true
        → (before a b ≡ true → before b c ≡ true → before a c ≡ true) → pick (eqb x z) (before a c) (ltb x z) ≡ true
    step true true e f p q rest =
        let v = eqb-true x y e in
        let w = eqb-true y z f in
        simp (eq-eqb x z (v ∙ w), rest p q)
    step true false e f p q rest =
        let v = eqb-true x y e in
        let w = ltb-true y z q in
        simp (ne_eqb x z (λ k. omega arith), lt-ltb x z (omega arith))
    step false true e f p q rest =
        let v = ltb-true x y p in
        let w = eqb-true y z f in
        simp (ne_eqb x z (λ k. omega arith), lt-ltb x z (omega arith))
    step false false e f p q rest =
        let v = ltb-true x y p in
        let w = ltb-true y z q in
        simp (ne_eqb x z (λ k. omega arith), lt-ltb x z (omega arith))

-- one byte of each list compared, and then what follows
before_byte : (m : ℕ) (s : List ℕ) (a b : ℕ) → a < length s → b < length s
    → before (part (suc m) s a) (part (suc m) s b) ≡ pick (eqb (get_or s a 0) (get_or s b 0)) (before (part m s (suc a)) (part m s (suc b))) (ltb (get_or s a 0) (get_or s b 0))
unfolding before
before_byte m s a b ha hb = ap₂ before (part_suc m s a ha) (part_suc m s b hb)

-- numbers compare like what stands above their last bytes and then these
last_byte : (p q x y : ℕ) (r : Bool) → x < 256 → y < 256 → pick (eqb p q) (pick (eqb x y) r (ltb x y)) (ltb p q) ≡ pick (eqb (p * 256 + x) (q * 256 + y)) r (ltb (p * 256 + x) (q * 256 + y))
last_byte p q x y r hx hy = go (eqb p q) (eqb x y) refl refl
  where
    same : (c d : ℕ) → (c < d → p * 256 + x < q * 256 + y) → (p * 256 + x < q * 256 + y → c < d) → ltb c d ≡ ltb (p * 256 + x) (q * 256 + y)
    same c d f g = same_test (ltb c d) (ltb (p * 256 + x) (q * 256 + y)) (λ t. lt→ltb (p * 256 + x) (q * 256 + y) (f (ltb→lt c d t))) (λ t. lt→ltb c d (g (ltb→lt (p * 256 + x) (q * 256 + y) t)))

    go : (t u : Bool) → eqb p q ≡ t → eqb x y ≡ u → pick t (pick u r (ltb x y)) (ltb p q) ≡ pick (eqb (p * 256 + x) (q * 256 + y)) r (ltb (p * 256 + x) (q * 256 + y))
    go true true e f =
        let v = eqb-true p q e in
        let w = eqb-true x y f in
        simp (eq-eqb (p * 256 + x) (q * 256 + y) (omega arith))
    go true false e f =
        let v = eqb-true p q e in
        let w = eqb-false x y f in
        simp (ne_eqb (p * 256 + x) (q * 256 + y) (λ k. w (omega arith))) (same x y (λ h. omega arith) (λ h. omega arith))
    go false u e f =
        let v = eqb-false p q e in
        simp (ne_eqb (p * 256 + x) (q * 256 + y) (λ k. v (omega arith))) (same p q (λ h. omega arith) (λ h. omega arith))

-- n bytes of each list compared at once, as big-endian numbers, and then what follows
pub before_number : (n m : ℕ) (s : List ℕ) (a b : ℕ) → Octets s → a + n + m ≤ length s → b + n + m ≤ length s
    → before (part (n + m) s a) (part (n + m) s b) ≡ pick (eqb (be n s a) (be n s b)) (before (part m s (a + n)) (part m s (b + n))) (ltb (be n s a) (be n s b))
unfolding be
before_number zero m s a b o ha hb =
    let k : 0 + m ≡ m = omega arith in
    ap (λ (i : ℕ). before (part i s a) (part i s b)) k ∙ ap₂ (λ (x y : ℕ). before (part m s x) (part m s y)) (sym (add-zero a)) (sym (add-zero b))
before_number (suc n) m s a b o ha hb =
    let k : suc n + m ≡ n + suc m = omega arith in
    let na : suc (a + n) ≡ a + suc n = omega arith in
    let nb : suc (b + n) ≡ b + suc n = omega arith in
    let x = get_or s (a + n) 0 in
    let y = get_or s (b + n) 0 in
    let r = before (part m s (a + suc n)) (part m s (b + suc n)) in
    let e : before (part (suc m) s (a + n)) (part (suc m) s (b + n)) ≡ pick (eqb x y) r (ltb x y) =
    before_byte m s (a + n) (b + n) (omega arith) (omega arith) ∙ ap₂ (λ (i j : ℕ). pick (eqb x y) (before (part m s i) (part m s j)) (ltb x y)) na nb in
    ap (λ (i : ℕ). before (part i s a) (part i s b)) k ∙ before_number n (suc m) s a b o (omega arith) (omega arith)
    ∙ ap (λ (z : Bool). pick (eqb (be n s a) (be n s b)) z (ltb (be n s a) (be n s b))) e
    ∙ last_byte (be n s a) (be n s b) x y r (o (a + n)) (o (b + n))

-- of ids that ascend, an earlier one comes before each later one, k + 1 places on
pub ascending_later : (n : ℕ) (s : List ℕ) (at i k : ℕ) → ascending n s at ≡ true → i + k < n → before (part 32 s (at + 32 * i)) (part 32 s (at + 32 * (i + k) + 32)) ≡ true
ascending_later n s at i zero e h =
    let q : at + 32 * (i + 0) + 32 ≡ at + 32 * i + 32 = omega arith in
    ap (λ (x : ℕ). before (part 32 s (at + 32 * i)) (part 32 s x)) q ∙ ascending_next n s at i e (omega arith)
ascending_later n s at i (suc k) e h =
    let q : at + 32 * (i + suc k) ≡ at + 32 * (i + k) + 32 = omega arith in
    before_trans (part 32 s (at + 32 * i)) (part 32 s (at + 32 * (i + k) + 32)) (part 32 s (at + 32 * (i + suc k) + 32)) (ascending_later n s at i k e (omega arith))
    (ap (λ (x : ℕ). before (part 32 s x) (part 32 s (at + 32 * (i + suc k) + 32))) (sym q) ∙ ascending_next n s at (i + suc k) e h)
