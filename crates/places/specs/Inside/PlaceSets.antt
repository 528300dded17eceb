-- A set of places, of 0 to 127, as two words: bit j of the first is place j, bit j of the second place 64 + j.
use Rattle.std.specs.Prelude.{◌≡◌, Bool, false, not, ◌&&◌, List, [], ◌∷◌, ℕ, zero, suc, ◌+◌, ◌-◌, ◌≤◌, ◌<◌, T, eqb, ltb, length, get_or}
use Rattle.base.specs.Tests.{pick, any, below}
use Rattle.base.specs.Sets.{has}
use Rattle.round.specs.Limits.{max_held}

unfoldable pub in_set : ℕ → ℕ → ℕ → Bool
in_set low high j = pick (ltb j 64) (has low j) (has high (j - 64))

-- two sets have a place in common
unfoldable pub meets : ℕ → ℕ → ℕ → ℕ → Bool
meets low high low' high' = any (λ j. in_set low high j && in_set low' high' j) (below max_held)

-- no place below r is in the set
abbrev pub NoneBelow : ℕ → ℕ → ℕ → Type 0
NoneBelow low high r = (q : ℕ) → q < r → in_set low high q ≡ false

-- r is the first place of the set, or n where none of the first n places is in it
pub record First (n low high r : ℕ) : Type 0 where
  -- it is n at most,
  pub bound : r ≤ n
  -- no place below it is in the set,
  pub none : NoneBelow low high r
  -- and where it is less than n, it is in the set itself
  pub member : r < n → T (in_set low high r)

-- the second set is the first one without its first place
abbrev pub Dropped : ℕ → ℕ → ℕ → ℕ → Type 0
Dropped low high low' high' = (f : ℕ) → T (in_set low high f) → NoneBelow low high f → (q : ℕ) → in_set low' high' q ≡ (in_set low high q && not (eqb q f))

-- ---- the places of the set among the k from j on, in ascending order
unfoldable pub members : ℕ → ℕ → ℕ → ℕ → List ℕ
members low high j zero = []
members low high j (suc k) = pick (in_set low high j) (j ∷ members low high (j + 1) k) (members low high (j + 1) k)

-- ---- arrays over the places
-- an array with an entry for each place
abbrev pub Column : List ℕ → Type 0
Column l = length l ≡ max_held

-- the set has each of the first n places that passes the test
abbrev pub Covers : ℕ → (ℕ → Bool) → ℕ → ℕ → Type 0
Covers n f low high = (j : ℕ) → j < n → T (f j) → T (in_set low high j)

-- ---- the places by a key: the set of each key has each of the first n places with this key
abbrev pub Indexed : ℕ → (ℕ → ℕ) → List ℕ → List ℕ → Type 0
Indexed n key low high = (j : ℕ) → j < n → T (in_set (get_or low (key j) 0) (get_or high (key j) 0) j)

-- no set of an index has lost a place
abbrev pub Grown : List ℕ → List ℕ → List ℕ → List ℕ → Type 0
Grown low high low' high' = (i q : ℕ) → q < max_held → T (in_set (get_or low i 0) (get_or high i 0) q) → T (in_set (get_or low' i 0) (get_or high' i 0) q)
