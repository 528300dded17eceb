-- The definition computes: two of the digests that NIST publishes with FIPS 180-4, found by the checker itself.
use Rattle.std.proofs.Common.{◌≡◌, [], ◌∷◌, refl}
use Rattle.base.specs.Bytes.{be, bytes}
use Rattle.digest.specs.Constants.{constants}
use Rattle.digest.specs.Preprocessing.{padding, padded, words}
use Rattle.digest.specs.Sha256.{next_word, extended, schedule, T₁, T₂, round, rounds, added, compressed, hash, joined, sha256}

-- the empty message: e3b0c442 98fc1c14 9afbf4c8 996fb924 27ae41e4 649b934c a495991b 7852b855
pub empty_message : sha256 []
    ≡ 227 ∷ 176 ∷ 196 ∷ 66 ∷ 152 ∷ 252 ∷ 28 ∷ 20 ∷ 154 ∷ 251 ∷ 244 ∷ 200 ∷ 153 ∷ 111 ∷ 185 ∷ 36 ∷ 39 ∷ 174 ∷ 65 ∷ 228 ∷ 100 ∷ 155 ∷ 147 ∷ 76 ∷ 164 ∷ 149 ∷ 153 ∷ 27 ∷ 120 ∷ 82 ∷ 184 ∷ 85 ∷ []
unfolding sha256 joined hash compressed added rounds round T₁ T₂ schedule extended next_word words be padded padding bytes constants
empty_message = refl

-- "abc": ba7816bf 8f01cfea 414140de 5dae2223 b00361a3 96177a9c b410ff61 f20015ad
pub abc_message : sha256 (97 ∷ 98 ∷ 99 ∷ [])
    ≡ 186 ∷ 120 ∷ 22 ∷ 191 ∷ 143 ∷ 1 ∷ 207 ∷ 234 ∷ 65 ∷ 65 ∷ 64 ∷ 222 ∷ 93 ∷ 174 ∷ 34 ∷ 35 ∷ 176 ∷ 3 ∷ 97 ∷ 163 ∷ 150 ∷ 23 ∷ 122 ∷ 156 ∷ 180 ∷ 16 ∷ 255 ∷ 97 ∷ 242 ∷ 0 ∷ 21 ∷ 173 ∷ []
unfolding sha256 joined hash compressed added rounds round T₁ T₂ schedule extended next_word words be padded padding bytes constants
abc_message = refl
