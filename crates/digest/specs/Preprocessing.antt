-- FIPS 180-4, section 5: preprocessing. A message is a list of bytes, so its length in bits is a multiple of 8.
use Rattle.std.specs.Prelude.{ℕ, zero, suc, ◌+◌, ◌-◌, ◌*◌, ◌/◌, ◌%◌, List, [], ◌∷◌, ◌++◌, length, drop, replicate}
use Rattle.base.specs.Bytes.{be, bytes, part}
use Rattle.digest.specs.declared.State.{State}

-- 5.1.1, for a message of l bits: "k zero bits, where k is the smallest, non-negative solution to the equation l + 1 + k ≡ 448 mod 512"
abbrev pub zero_bits : ℕ → ℕ
zero_bits l = (448 + 512 - (l + 1) % 512) % 512

-- 5.1.1: "Append the bit 1 to the end of the message, followed by k zero bits [..]. Then append the 64-bit block that is equal to the number l".
-- The bit 1 and seven of the zero bits are the byte 128, so k / 8 zero bytes follow it. Of an l past the standard's limit the last 64 bits are taken.
unfoldable pub padding : ℕ → List ℕ
padding l = 128 ∷ (replicate (zero_bits l / 8) 0 ++ bytes 8 l)

-- 5.1.1: the message m with its padding
unfoldable pub padded : List ℕ → List ℕ
padded m = m ++ padding (8 * length m)

-- 5.2.1: block i of the padded message s, of 512 bits, counted from 0
abbrev pub block : List ℕ → ℕ → List ℕ
block s i = part 64 s (64 * i)

-- 5.2.1: the first n of a block's words of 32 bits, M_0, M_1, ..
unfoldable pub words : ℕ → List ℕ → List ℕ
words zero b = []
words (suc n) b = words n b ++ (be 4 b (4 * n) ∷ [])

-- 5.3.3: the initial hash value; its words H_0, .., H_7 are the fields a, .., h
abbrev pub initial : State
initial = record {
  a = 0x6a09e667;
  b = 0xbb67ae85;
  c = 0x3c6ef372;
  d = 0xa54ff53a;
  e = 0x510e527f;
  f = 0x9b05688c;
  g = 0x1f83d9ab;
  h = 0x5be0cd19;
}

-- Not in the standard, for the contracts of the code: what of the padded message follows the blocks that the message fills, one block or two
unfoldable pub last_blocks : List ℕ → List ℕ
last_blocks m = drop (64 * (length m / 64)) (padded m)
