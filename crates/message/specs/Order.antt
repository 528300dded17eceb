-- Ids ascend as bytes: the first byte that differs decides.
use Rattle.std.specs.Prelude.{Bool, true, false, List, [], ◌∷◌, ◌≡◌, ℕ, zero, suc, ◌+◌, ◌≤◌, eqb, ltb, length}
use Rattle.base.specs.Tests.{pick}
use Rattle.base.specs.Bytes.{be, part}
use Rattle.message.specs.Layout.{id_len}

-- the list a comes before the list b
unfoldable pub before : List ℕ → List ℕ → Bool
before (x ∷ a) (y ∷ b) = pick (eqb x y) (before a b) (ltb x y)
before (x ∷ a) [] = false
before [] b = false

-- behind the id of s at `at` follow n more, and each comes after the one in front of it
unfoldable pub ascending : ℕ → List ℕ → ℕ → Bool
ascending zero s at = true
ascending (suc n) s at = pick (before (part id_len s at) (part id_len s (at + id_len))) (ascending n s (at + id_len)) false

-- ids are compared by words of eight bytes
abbrev pub word_len : ℕ
word_len = 8

-- two ids in the bytes s whose first words were read:
pub record TwoIds (s : List ℕ) (a x b y : ℕ) : Type 0 where
  -- the bytes do not end within the first id,
  pub first : a + id_len ≤ length s
  -- nor within the second,
  pub second : b + id_len ≤ length s
  -- the first begins with the word x,
  pub first_word : x ≡ be word_len s a
  -- and the second with the word y
  pub second_word : y ≡ be word_len s b
