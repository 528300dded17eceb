-- Laws of writing into a buffer, and of numbers in bytes.
use mathlib.Core.Path.{◌≡◌, refl, ap, ap₂, sym, ◌∙◌}
use mathlib.Core.List.{List, [], ◌∷◌, ◌++◌, append_assoc, append-nil}
use Prim.Native.Nat.{ℕ, zero, suc, ◌+◌, ◌*◌, ◌/◌, ◌%◌, ◌^◌, ◌≤◌, ◌<◌}
use native.Mathlib.Nat.{add-zero, zero-add, add_assoc, pow-suc}
use native.Mathlib.Omega.{arith}
use lib.ListN.{length, get_or, take, drop, length-append, length-drop, take-append-drop, drop_of_length-le}
use lib.Seq.{take-append_seam, drop-append-add, drop-drop, drop-cons, length-take-le, take_at, take-add, take-suc, get_or-append-add, get_or_at, get_or-drop}
use Rattle.base.specs.Bytes.{be, bytes, part, put_at, Octets}

-- a buffer that is written from the front: p so far and the rest of b behind it; then v is put after p
pub more : (p v b l m : List ℕ) → l ≡ p ++ drop (length p) b → m ≡ put_at l (length p) v → m ≡ (p ++ v) ++ drop (length (p ++ v)) b
more p v b l m e f =
    f ∙ ap (λ (x : List ℕ). put_at x (length p) v) e
    ∙ ap₂ (λ (x y : List ℕ). x ++ v ++ y) (take-append_seam p (drop (length p) b))
    (drop-append-add p (drop (length p) b) (length v) ∙ drop-drop (length v) (length p) b ∙ ap (λ (n : ℕ). drop n b) (sym (length-append p v)))

-- one byte is itself
pub be1 : (s : List ℕ) (at : ℕ) → be 1 s at ≡ get_or s at 0
unfolding be
be1 s at = let e = ap (λ (k : ℕ). get_or s k 0) (add-zero at) in omega arith

-- a part, from its first byte on
pub part_suc : (n : ℕ) (s : List ℕ) (at : ℕ) → at < length s → part (suc n) s at ≡ get_or s at 0 ∷ part n s (suc at)
part_suc n s at h = ap (take (suc n)) (drop-cons s at 0 h)

-- a part that is all there
pub part_length : (n : ℕ) (s : List ℕ) (at : ℕ) → at + n ≤ length s → length (part n s at) ≡ n
part_length n s at h = length-take-le n (drop at s) (simp length-drop (omega arith))

-- bytes put in, and more bytes put in behind them
pub put_at_put_at : (b : List ℕ) (at : ℕ) (v w : List ℕ) → at ≤ length b → put_at (put_at b at v) (at + length v) w ≡ put_at b at (v ++ w)
put_at_put_at b at v w h =
    let p = take at b ++ v in
    let d = drop (at + length v) b in
    let l : length p ≡ at + length v = length-append (take at b) v ∙ ap (λ (k : ℕ). k + length v) (length-take-le at b h) in
    let e : at + length v + length w ≡ at + length (v ++ w) = add_assoc at (length v) (length w) ∙ ap (λ (k : ℕ). at + k) (sym (length-append v w)) in
    ap₂ (λ (x y : List ℕ). x ++ w ++ y) (take_at p d (at + length v) l)
    (ap (λ (k : ℕ). drop (k + length w) (p ++ d)) (sym l) ∙ drop-append-add p d (length w) ∙ drop-drop (length w) (at + length v) b ∙ ap (λ (k : ℕ). drop k b) e)
    ∙ ap (λ (x : List ℕ). x ++ drop (at + length (v ++ w)) b) (append_assoc (take at b) v w)

-- bytes put in, and more behind them, where the second place is known by an equation only
pub put_at_more : (b l m p v : List ℕ) (at k : ℕ) → at ≤ length b → at + length p ≡ k → l ≡ put_at b at p → m ≡ put_at l k v → m ≡ put_at b at (p ++ v)
put_at_more b l m p v at k h q e f = f ∙ ap₂ (λ (x : List ℕ) (n : ℕ). put_at x n v) e (sym q) ∙ put_at_put_at b at p v h

-- as many bytes as there are, put in from the front
pub put_at_whole : (b v : List ℕ) → length b ≡ length v → put_at b 0 v ≡ v
put_at_whole b v h = ap (λ (x : List ℕ). v ++ x) (drop_of_length-le b {i = 0 + length v} (omega arith)) ∙ append-nil v

-- nothing put in
pub put_at_none : (b : List ℕ) (at : ℕ) → b ≡ put_at b at []
put_at_none b at = sym (ap (λ (k : ℕ). take at b ++ [] ++ drop k b) (add-zero at) ∙ ap (λ (x : List ℕ). x ++ drop at b) (append-nil (take at b)) ∙ take-append-drop at b)

-- `more`, where the place is known by an equation only
pub more_at : (p v b l m : List ℕ) (at : ℕ) → length p ≡ at → l ≡ p ++ drop (length p) b → m ≡ put_at l at v → m ≡ (p ++ v) ++ drop (length (p ++ v)) b
more_at p v b l m at q e f = more p v b l m e (f ∙ ap (λ (k : ℕ). put_at l k v) (sym q))

-- two parts in a row
pub part_add : (n m : ℕ) (s : List ℕ) (at : ℕ) → part (n + m) s at ≡ part n s at ++ part m s (at + n)
part_add n m s at = take-add n m (drop at s) ∙ ap (λ (x : List ℕ). part n s at ++ take m x) (drop-drop n at s)

-- ---- numbers in bytes, over the width

pub bytes_length : (n x : ℕ) → length (bytes n x) ≡ n
unfolding bytes
bytes_length zero x = refl
bytes_length (suc n) x = length-append (bytes n (x / 256)) (x % 256 ∷ []) ∙ omega (arith, bytes_length n (x / 256))

-- and a number of n bytes is below 256 ^ n
pub be_below : (n : ℕ) (s : List ℕ) (at : ℕ) → Octets s → be n s at < 256 ^ n
unfolding be
be_below zero s at o = omega arith
be_below (suc n) s at o = let h = be_below n s at o in let e = pow-suc 256 n in omega (arith, o (at + n))

-- a number is read behind what stands in front of it
pub be_at : (n : ℕ) (p q : List ℕ) (at : ℕ) → length p ≡ at → be n (p ++ q) at ≡ be n q 0
unfolding be
be_at zero p q at e = refl
be_at (suc n) p q at e =
    let g : get_or (p ++ q) (at + n) 0 ≡ get_or q (0 + n) 0 = ap (λ (k : ℕ). get_or (p ++ q) (k + n) 0) (sym e) ∙ get_or-append-add p q n 0 ∙ ap (λ (k : ℕ). get_or q k 0) (sym (zero-add n)) in
    ap₂ (λ (x y : ℕ). x * 256 + y) (be_at n p q at e) g

-- a number that fits is read from its bytes
pub be_bytes : (n x : ℕ) (t : List ℕ) → x < 256 ^ n → be n (bytes n x ++ t) 0 ≡ x
unfolding be bytes
be_bytes zero x t h = omega arith
be_bytes (suc n) x t h =
    let h' : x < 256 ^ n * 256 = rw pow-suc at h in
    let e : bytes n (x / 256) ++ (x % 256 ∷ []) ++ t ≡ bytes n (x / 256) ++ x % 256 ∷ t = append_assoc (bytes n (x / 256)) (x % 256 ∷ []) t in
    let g : get_or (bytes n (x / 256) ++ x % 256 ∷ t) (0 + n) 0 ≡ x % 256 = get_or_at (bytes n (x / 256)) (x % 256) t 0 (0 + n) (bytes_length n (x / 256) ∙ sym (zero-add n)) in
    let b = be_bytes n (x / 256) (x % 256 ∷ t) (omega arith) in
    ap (λ (l : List ℕ). be n l 0 * 256 + get_or l (0 + n) 0) e ∙ omega arith

-- the bytes of a number that was read are those that it was read from
pub bytes_be : (n : ℕ) (s : List ℕ) (at : ℕ) → Octets s → at + n ≤ length s → bytes n (be n s at) ≡ part n s at
unfolding be bytes
bytes_be zero s at o h = refl
bytes_be (suc n) s at o h =
    let x = get_or s (at + n) 0 in
    let y = be n s at in
    let b = o (at + n) in
    let q : (y * 256 + x) / 256 ≡ y = omega arith in
    let r : (y * 256 + x) % 256 ≡ x = omega arith in
    let l : n < length (drop at s) = simp length-drop (omega arith) in
    ap₂ (λ (a c : ℕ). bytes n a ++ (c ∷ [])) q r
    ∙ ap₂ (λ (a : List ℕ) (c : ℕ). a ++ (c ∷ [])) (bytes_be n s at o (omega arith)) (sym (get_or-drop at s n 0))
    ∙ sym (take-suc (drop at s) n 0 l)
