-- What is asked of masks and of a graph in memory.
use Rattle.std.specs.Prelude.{Bool, List, ℕ, ◌^◌, ◌<◌, eqb, get_or}
use Rattle.std.specs.Int.Bits.{bit_and}
use Rattle.graph.specs.Limits.{mask_bits}

-- the mask q lies within the set, a mask too
abbrev pub within : ℕ → ℕ → Bool
within set q = eqb (bit_and q set) q

-- masks in memory have 32 bits
abbrev pub Masks : List ℕ → Type 0
Masks l = (i : ℕ) → get_or l i 0 < 2 ^ mask_bits
