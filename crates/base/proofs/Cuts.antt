-- A list cut into parts: what is put into one part leaves the others as they were.
use mathlib.Core.Path.{◌≡◌, refl, sym, ap, ap₂, ◌∙◌}
use mathlib.Core.List.{List, [], ◌∷◌, ◌++◌, append_assoc}
use Prim.Native.Nat.{ℕ, zero, suc, ◌+◌, ◌-◌, ◌≤◌, ◌<◌}
use native.Mathlib.Nat.{add_assoc}
use native.Mathlib.Omega.{arith}
use lib.ListN.{length, get_or, take, drop, set, length-append, length-take, length-drop, take-append-drop}
use lib.Seq.{drop_at, take-add, take-take, drop-drop, take-append-add, take-append-le, drop-append-add, drop-append-le, length-take-le, get_or-take, get_or-drop, set_split, append_snoc}
use Rattle.std.proofs.lemmas.List.{drop-take}
use Rattle.base.specs.Bytes.{part, put_at}
use Rattle.base.proofs.Bytes.{part_length}

-- a part of the first of two lists
pub part_front : (a w : List ℕ) (n at : ℕ) → at + n ≤ length a → part n (a ++ w) at ≡ part n a at
part_front a w n at h = ap (take n) (drop-append-le at a w (omega arith)) ∙ take-append-le n (drop at a) w (omega (arith, length-drop at a))

-- what stands in front of it stays
pub part_put_front : (l v : List ℕ) (at n from : ℕ) → from + n ≤ at → at ≤ length l → part n (put_at l at v) from ≡ part n l from
part_put_front l v at n from h k =
    let e : length (take at l) ≡ at = length-take-le at l k in
    ap (λ (x : List ℕ). part n x from) (append_assoc (take at l) v (drop (at + length v) l))
    ∙ part_front (take at l) (v ++ drop (at + length v) l) n from (omega arith)
    ∙ sym (part_front (take at l) (drop at l) n from (omega arith))
    ∙ ap (λ (x : List ℕ). part n x from) (take-append-drop at l)

pub length_put : (l v : List ℕ) (at : ℕ) → at + length v ≤ length l → length (put_at l at v) ≡ length l
length_put l v at h = simp (length-append, length-take, length-drop) (omega arith)

-- ---- bytes put into a list

-- behind where they are put in
pub drop_behind : (s v : List ℕ) (at f : ℕ) → at ≤ length s → at + length v ≤ f → drop f (put_at s at v) ≡ drop f s
drop_behind s v at f h k =
    let p = take at s ++ v in
    let m = at + length v in
    let l : length p ≡ m = length-append (take at s) v ∙ ap (λ (n : ℕ). n + length v) (length-take-le at s h) in
    let e : f ≡ length p + (f - m) = omega arith in
    let d : m + (f - m) ≡ f = omega arith in
    ap (λ (n : ℕ). drop n (p ++ drop m s)) e ∙ drop-append-add p (drop m s) (f - m) ∙ drop-drop (f - m) m s ∙ ap (λ (n : ℕ). drop n s) d

-- into a part of it
drop_inside : (s v : List ℕ) (f i : ℕ) → f + i ≤ length s → drop f (put_at s (f + i) v) ≡ put_at (drop f s) i v
drop_inside s v f i h =
    let a = take f s in
    let b = take i (drop f s) in
    let d = drop (f + i + length v) s in
    let e : drop (i + length v) (drop f s) ≡ d = drop-drop (i + length v) f s ∙ ap (λ (n : ℕ). drop n s) (sym (add_assoc f i (length v))) in
    ap (λ (x : List ℕ). drop f (x ++ v ++ d)) (take-add f i s)
    ∙ ap (drop f) (ap (λ (x : List ℕ). x ++ d) (append_assoc a b v) ∙ append_assoc a (b ++ v) d)
    ∙ drop_at a (b ++ v ++ d) f (length-take-le f s (omega arith))
    ∙ ap (λ (x : List ℕ). b ++ v ++ x) (sym e)

take_inside : (l v : List ℕ) (n i : ℕ) → i + length v ≤ n → i + length v ≤ length l → take n (put_at l i v) ≡ put_at (take n l) i v
take_inside l v n i h k =
    let p = take i l ++ v in
    let m = i + length v in
    let q : length p ≡ m = length-append (take i l) v ∙ ap (λ (j : ℕ). j + length v) (length-take-le i l (omega arith)) in
    let e : n ≡ length p + (n - m) = omega arith in
    let g : n ≡ m + (n - m) = omega arith in
    let d : drop m (take n l) ≡ take (n - m) (drop m l) = ap (λ (j : ℕ). drop m (take j l)) g ∙ drop-take m (n - m) l in
    ap (λ (j : ℕ). take j (p ++ drop m l)) e ∙ take-append-add p (drop m l) (n - m)
    ∙ sym (ap₂ (λ (x y : List ℕ). x ++ v ++ y) (take-take i n l (omega arith)) d)

pub part_inside : (n : ℕ) (s v : List ℕ) (f i : ℕ) → i + length v ≤ n → f + n ≤ length s → part n (put_at s (f + i) v) f ≡ put_at (part n s f) i v
part_inside n s v f i h k = ap (take n) (drop_inside s v f i (omega arith)) ∙ take_inside (drop f s) v n i h (omega (arith, length-drop f s))

-- one byte
pub put_one : (l : List ℕ) (i x : ℕ) → i < length l → put_at l i (x ∷ []) ≡ set l i x
put_one l i x h =
    let e : i + 1 ≡ suc i = omega arith in
    append_snoc (take i l) x (drop (i + 1) l) ∙ ap (λ (n : ℕ). take i l ++ x ∷ drop n l) e ∙ sym (set_split l i x h)

-- a part of a list that was lent, back with other elements
pub put_mid : (s v : List ℕ) (at n : ℕ) → length v ≡ n → take at s ++ (v ++ drop n (drop at s)) ≡ put_at s at v
put_mid s v at n e = ap (λ (x : List ℕ). take at s ++ (v ++ x)) (drop-drop n at s ∙ ap (λ (k : ℕ). drop (at + k) s) (sym e)) ∙ sym (append_assoc (take at s) v (drop (at + length v) s))

-- ---- a list cut into parts of given widths, and where part k begins
abbrev pub cut : List ℕ → List ℕ → ℕ → List (List ℕ)
cut [] s at = []
cut (w ∷ ws) s at = part w s at ∷ cut ws s (at + w)

abbrev pub start : List ℕ → ℕ → ℕ
start [] k = 0
start (w ∷ ws) zero = 0
start (w ∷ ws) (suc k) = w + start ws k

-- bytes put into part k, from i on; and one byte
abbrev pub into : List (List ℕ) → ℕ → ℕ → List ℕ → List (List ℕ)
into l k i v = set l k (put_at (get_or l k []) i v)

abbrev pub one_into : List (List ℕ) → ℕ → ℕ → ℕ → List (List ℕ)
one_into l k i x = set l k (set (get_or l k []) i x)

cut_behind : (ws s v : List ℕ) (at f : ℕ) → at ≤ length s → at + length v ≤ f → cut ws (put_at s at v) f ≡ cut ws s f
cut_behind [] s v at f h k = refl
cut_behind (w ∷ ws) s v at f h k = ap₂ ◌∷◌ (ap (take w) (drop_behind s v at f h k)) (cut_behind ws s v at (f + w) h (omega arith))

pub cut_put : (ws s v : List ℕ) (at k i : ℕ) → i + length v ≤ get_or ws k 0 → at + start ws k + get_or ws k 0 ≤ length s
    → cut ws (put_at s (at + start ws k + i) v) at ≡ into (cut ws s at) k i v
cut_put [] s v at k i h q = refl
cut_put (w ∷ ws) s v at zero i h q =
    let e : at + 0 + i ≡ at + i = omega arith in
    ap (λ (n : ℕ). cut (w ∷ ws) (put_at s n v) at) e ∙ ap₂ ◌∷◌ (part_inside w s v at i h (omega arith)) (cut_behind ws s v (at + i) (at + w) (omega arith) (omega arith))
cut_put (w ∷ ws) s v at (suc k) i h q =
    let e : at + (w + start ws k) + i ≡ at + w + start ws k + i = omega arith in
    ap (λ (n : ℕ). cut (w ∷ ws) (put_at s n v) at) e
    ∙ ap₂ ◌∷◌ (part_put_front s v (at + w + start ws k + i) w at (omega arith) (omega arith)) (cut_put ws s v (at + w) k i h (omega arith))

pub cut_length : (ws s : List ℕ) (at k : ℕ) → at + start ws k + get_or ws k 0 ≤ length s → length (get_or (cut ws s at) k []) ≡ get_or ws k 0
cut_length [] s at k h = refl
cut_length (w ∷ ws) s at zero h = part_length w s at (omega arith)
cut_length (w ∷ ws) s at (suc k) h = cut_length ws s (at + w) k (omega arith)

-- one element written
pub cut_set : (ws s : List ℕ) (at k i x : ℕ) → i < get_or ws k 0 → at + start ws k + get_or ws k 0 ≤ length s
    → cut ws (set s (at + start ws k + i) x) at ≡ one_into (cut ws s at) k i x
cut_set ws s at k i x h q =
    let o : length (get_or (cut ws s at) k []) ≡ get_or ws k 0 = cut_length ws s at k q in
    ap (λ (l : List ℕ). cut ws l at) (sym (put_one s (at + start ws k + i) x (omega arith))) ∙ cut_put ws s (x ∷ []) at k i (omega arith) q
    ∙ ap (set (cut ws s at) k) (put_one (get_or (cut ws s at) k []) i x (omega arith))

-- ---- what is read in a part
pub get_d_part : (n : ℕ) (s : List ℕ) (f j : ℕ) → j < n → get_or (part n s f) j 0 ≡ get_or s (f + j) 0
get_d_part n s f j h = get_or-take n (drop f s) j 0 h ∙ get_or-drop f s j 0

pub part_part : (m n : ℕ) (s : List ℕ) (f at : ℕ) → at + m ≤ n → f + n ≤ length s → part m (part n s f) at ≡ part m s (f + at)
part_part m n s f at h k =
    let l = drop f s in
    let e : n ≡ at + (n - at) = omega arith in
    ap (λ (j : ℕ). part m (take j l) at) e ∙ ap (take m) (drop-take at (n - at) l) ∙ take-take m (n - at) (drop at l) (omega arith)
    ∙ ap (take m) (drop-drop at f s)
