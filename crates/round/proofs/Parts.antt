-- Laws of lists: a part read out of a list, and of a list with something put in; numbers that stay bytes.
use mathlib.Core.Path.{◌≡◌, refl, ap, ◌∙◌}
use mathlib.Core.List.{List, [], ◌∷◌, ◌++◌, append_assoc, append-nil}
use Prim.Native.Nat.{ℕ, zero, suc, ◌+◌, ◌≤◌, ◌<◌}
use native.Mathlib.Nat.{add-zero}
use native.Mathlib.Omega.{arith}
use lib.ListN.{length, take, drop, take-append-drop}
use lib.Seq.{take_at, drop_at, length-take-le, get_or-drop}
use Rattle.base.specs.Bytes.{part, put_at, Octets}
use Rattle.protocol.specs.Table.{Held, tabulate}

-- what was put in is read back
pub part_put : (l v : List ℕ) (at n : ℕ) → at ≤ length l → length v ≡ n → part n (put_at l at v) at ≡ v
part_put l v at n h e =
    ap (λ (x : List ℕ). part n x at) (append_assoc (take at l) v (drop (at + length v) l))
    ∙ ap (take n) (drop_at (take at l) (v ++ drop (at + length v) l) at (length-take-le at l h))
    ∙ take_at v (drop (at + length v) l) n e

pub put_nothing : (l : List ℕ) (at : ℕ) → put_at l at [] ≡ l
put_nothing l at = ap (λ (k : ℕ). take at l ++ [] ++ drop k l) (add-zero at) ∙ ap (λ (r : List ℕ). r ++ drop at l) (append-nil (take at l)) ∙ take-append-drop at l

-- ---- bytes
pub bytes_append : (a b : List ℕ) → Octets a → Octets b → Octets (a ++ b)
bytes_append [] b h k i = k i
bytes_append (x ∷ a) b h k zero = h zero
bytes_append (x ∷ a) b h k (suc i) = bytes_append a b (λ j. h (suc j)) k i

pub bytes_take : (n : ℕ) (l : List ℕ) → Octets l → Octets (take n l)
bytes_take zero l h i = omega arith
bytes_take (suc n) [] h i = omega arith
bytes_take (suc n) (x ∷ l) h zero = h zero
bytes_take (suc n) (x ∷ l) h (suc i) = bytes_take n l (λ j. h (suc j)) i

pub bytes_drop : (n : ℕ) (l : List ℕ) → Octets l → Octets (drop n l)
bytes_drop n l h i = rw (get_or-drop n l i 0) (h (n + i))

pub bytes_put : (l v : List ℕ) (at : ℕ) → Octets l → Octets v → Octets (put_at l at v)
bytes_put l v at h k =
    bytes_append (take at l ++ v) (drop (at + length v) l) (bytes_append (take at l) v (bytes_take at l h) k) (bytes_drop (at + length v) l h)

-- ---- tables of records
pub tabulate_cong : (n : ℕ) (f g : ℕ → Held) → ((i : ℕ) → i < n → f i ≡ g i) → tabulate n f ≡ tabulate n g
unfolding tabulate
tabulate_cong zero f g h = refl
tabulate_cong (suc n) f g h = λ i. tabulate_cong n f g (λ k l. h k (omega arith)) i ++ h n (omega arith) i ∷ []
