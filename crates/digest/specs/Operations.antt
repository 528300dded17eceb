-- FIPS 180-4, sections 2.2.2 and 3.2, for words of w = 32 bits. A word is a number below 2 ^ 32.
use Rattle.std.specs.Prelude.{ℕ, ◌+◌, ◌-◌, ◌*◌, ◌/◌, ◌%◌, ◌^◌, bit_and, bit_or, bit_xor}

-- 2.2.2: ∧, the bitwise AND
infixl 35 ◌AND◌
abbrev pub ◌AND◌ : ℕ → ℕ → ℕ
x AND y = bit_and x y

-- 2.2.2: ∨, the bitwise OR (inclusive)
infixl 33 ◌OR◌
abbrev pub ◌OR◌ : ℕ → ℕ → ℕ
x OR y = bit_or x y

-- 2.2.2: ⊕, the bitwise XOR (exclusive)
infixl 33 ◌XOR◌
abbrev pub ◌XOR◌ : ℕ → ℕ → ℕ
x XOR y = bit_xor x y

-- 2.2.2: ¬, the bitwise complement
abbrev pub NOT : ℕ → ℕ
NOT x = (2 ^ 32 - 1) - x

-- 2.2.2 and 3.2 (2): +, addition modulo 2 ^ 32, written ⊞ here
infixl 32 ◌⊞◌
abbrev pub ◌⊞◌ : ℕ → ℕ → ℕ
x ⊞ y = (x + y) % 2 ^ 32

-- 2.2.2: <<, the left-most n bits are discarded and n zeros follow on the right
infixl 36 ◌<<◌
abbrev pub ◌<<◌ : ℕ → ℕ → ℕ
x << n = x * 2 ^ n % 2 ^ 32

-- 2.2.2: >>, the right-most n bits are discarded and n zeros stand on the left
infixl 36 ◌>>◌
abbrev pub ◌>>◌ : ℕ → ℕ → ℕ
x >> n = x / 2 ^ n

-- 3.2 (3): SHRⁿ(x) = x >> n
abbrev pub SHR : ℕ → ℕ → ℕ
SHR n x = x >> n

-- 3.2 (4): ROTRⁿ(x) = (x >> n) ∨ (x << w - n)
abbrev pub ROTR : ℕ → ℕ → ℕ
ROTR n x = (x >> n) OR (x << (32 - n))
