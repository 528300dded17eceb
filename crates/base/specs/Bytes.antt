-- Big-endian numbers in lists of bytes, and writing into a buffer. Widths are counted in bytes.
use Rattle.std.specs.Prelude.{List, [], ◌∷◌, ◌++◌, ℕ, zero, suc, ◌+◌, ◌*◌, ◌/◌, ◌%◌, ◌<◌, length, get_or, take, drop}

-- the number in the n bytes of s from `at`, the highest first
unfoldable pub be : ℕ → List ℕ → ℕ → ℕ
be zero s at = 0
be (suc n) s at = be n s at * 256 + get_or s (at + n) 0

-- x in n bytes, the highest first; what does not fit is lost
unfoldable pub bytes : ℕ → ℕ → List ℕ
bytes zero x = []
bytes (suc n) x = bytes n (x / 256) ++ (x % 256 ∷ [])

-- the n bytes of s from `at`
abbrev pub part : ℕ → List ℕ → ℕ → List ℕ
part n s at = take n (drop at s)

-- the list l with v in place of what stood from `at`
abbrev pub put_at : List ℕ → ℕ → List ℕ → List ℕ
put_at l at v = take at l ++ v ++ drop (at + length v) l

-- a list of bytes: each number is below 256
abbrev pub Octets : List ℕ → Type 0
Octets s = (i : ℕ) → get_or s i 0 < 256
