-- FIPS 180-4, section 6.2: SHA-256. A State is the eight working variables a, .., h, and also the eight words H_0, .., H_7 of a hash value.
use Rattle.std.specs.Prelude.{ℕ, zero, suc, ◌+◌, ◌-◌, ◌/◌, List, [], ◌∷◌, ◌++◌, length, slice_index}
use Rattle.base.specs.Bytes.{bytes}
use Rattle.digest.specs.declared.State.{State}
use Rattle.digest.specs.Operations.{◌⊞◌}
use Rattle.digest.specs.Functions.{Ch, Maj, Σ0, Σ1, σ0, σ1}
use Rattle.digest.specs.Constants.{K}
use Rattle.digest.specs.Preprocessing.{padded, block, words, initial}

-- 6.2.2 step 1, for 16 ≤ t ≤ 63: W_t from the words before it
unfoldable pub next_word : List ℕ → ℕ → ℕ
next_word w t = σ1 (slice_index w (t - 2)) ⊞ slice_index w (t - 7) ⊞ σ0 (slice_index w (t - 15)) ⊞ slice_index w (t - 16)

-- 6.2.2 step 1: the message schedule, the 16 words of a block and n more
unfoldable pub extended : ℕ → List ℕ → List ℕ
extended zero w = w
extended (suc n) w = extended n w ++ (next_word (extended n w) (16 + n) ∷ [])

-- 6.2.2 step 1: all 64 words, W_0, .., W_63
unfoldable pub schedule : List ℕ → List ℕ
schedule b = extended 48 (words 16 b)

-- 6.2.2 step 3: T₁ and T₂ of a round, with its constant k and its word w
unfoldable pub T₁ : ℕ → ℕ → State → ℕ
T₁ k w s = s.h ⊞ Σ1 s.e ⊞ Ch s.e s.f s.g ⊞ k ⊞ w

unfoldable pub T₂ : State → ℕ
T₂ s = Σ0 s.a ⊞ Maj s.a s.b s.c

-- 6.2.2 step 3: one round
unfoldable pub round : ℕ → ℕ → State → State
round k w s = record {
  h = s.g;
  g = s.f;
  f = s.e;
  e = s.d ⊞ T₁ k w s;
  d = s.c;
  c = s.b;
  b = s.a;
  a = T₁ k w s ⊞ T₂ s;
}

-- 6.2.2 step 3: the rounds t = 0, .., n - 1 over the schedule w
unfoldable pub rounds : ℕ → List ℕ → State → State
rounds zero w s = s
rounds (suc t) w s = round (K t) (slice_index w t) (rounds t w s)

-- 6.2.2 step 4: the working variables s added to the hash value H
unfoldable pub added : State → State → State
added s H = record {
  a = s.a ⊞ H.a;
  b = s.b ⊞ H.b;
  c = s.c ⊞ H.c;
  d = s.d ⊞ H.d;
  e = s.e ⊞ H.e;
  f = s.f ⊞ H.f;
  g = s.g ⊞ H.g;
  h = s.h ⊞ H.h;
}

-- 6.2.2 steps 1 to 4: the hash value after the block b; step 2 starts the working variables with the hash value H before it
unfoldable pub compressed : State → List ℕ → State
compressed H b = added (rounds 64 (schedule b) H) H

-- 6.2.2: the hash value after the first n blocks of the padded message s
unfoldable pub hash : ℕ → List ℕ → State
hash zero s = initial
hash (suc n) s = compressed (hash n s) (block s n)

-- 6.2.2, at the end: H_0 ‖ H_1 ‖ .. ‖ H_7
unfoldable pub joined : State → List ℕ
joined H =
    bytes 4 H.a ++ bytes 4 H.b ++ bytes 4 H.c ++ bytes 4 H.d
    ++ bytes 4 H.e ++ bytes 4 H.f ++ bytes 4 H.g ++ bytes 4 H.h

-- the message digest: after the N blocks of the padded message
unfoldable pub sha256 : List ℕ → List ℕ
sha256 m = joined (hash (length (padded m) / 64) (padded m))
