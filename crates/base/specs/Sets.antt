-- Sets of small numbers as the bits of a number, which the papers call a mask.
use Rattle.std.specs.Prelude.{Bool, not, ◌&&◌, ◌||◌, ℕ, ◌/◌, ◌%◌, ◌^◌, eqb}
use Rattle.base.specs.Tests.{all, below}

-- p is in the mask q: bit p of q is 1
unfoldable pub has : ℕ → ℕ → Bool
has q p = eqb (q / 2 ^ p % 2) 1

-- of the numbers below n: the set S contains the mask q
unfoldable pub contains : ℕ → (ℕ → Bool) → ℕ → Bool
contains n S q = all (λ p. not (has q p) || S p) (below n)

-- of the numbers below n: the mask q and the set S have none in common
unfoldable pub apart : ℕ → (ℕ → Bool) → ℕ → Bool
apart n S q = all (λ p. not (has q p && S p)) (below n)
