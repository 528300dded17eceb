-- FIPS 180-4, section 4.1.2: SHA-224 and SHA-256 functions, each on words of 32 bits.
use Rattle.std.specs.Prelude.{ℕ}
use Rattle.digest.specs.Operations.{◌AND◌, ◌XOR◌, NOT, SHR, ROTR}

-- (4.2)
abbrev pub Ch : ℕ → ℕ → ℕ → ℕ
Ch x y z = (x AND y) XOR (NOT x AND z)

-- (4.3)
abbrev pub Maj : ℕ → ℕ → ℕ → ℕ
Maj x y z = (x AND y) XOR (x AND z) XOR (y AND z)

-- (4.4)
abbrev pub Σ0 : ℕ → ℕ
Σ0 x = ROTR 2 x XOR ROTR 13 x XOR ROTR 22 x

-- (4.5)
abbrev pub Σ1 : ℕ → ℕ
Σ1 x = ROTR 6 x XOR ROTR 11 x XOR ROTR 25 x

-- (4.6)
abbrev pub σ0 : ℕ → ℕ
σ0 x = ROTR 7 x XOR ROTR 18 x XOR SHR 3 x

-- (4.7)
abbrev pub σ1 : ℕ → ℕ
σ1 x = ROTR 17 x XOR ROTR 19 x XOR SHR 10 x
