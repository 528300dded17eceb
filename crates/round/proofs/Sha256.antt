-- SHA-256 is an id rule, so the demands hold with it as the calls use it.
use mathlib.Core.Path.{◌≡◌, ap₂, ◌∙◌}
use mathlib.Core.List.{List, [], ◌∷◌, ◌++◌}
use Prim.Native.Nat.{ℕ, zero, suc, ◌+◌, ◌*◌, ◌/◌, ◌%◌, ◌<◌}
use native.Mathlib.Omega.{arith}
use lib.ListN.{length, length-append}
use Rattle.base.specs.Bytes.{bytes, Octets}
use Rattle.base.proofs.Bytes.{bytes_length}
use Rattle.digest.specs.declared.State.{State}
use Rattle.digest.specs.Preprocessing.{padded}
use Rattle.digest.specs.Sha256.{hash, joined, sha256}
use Rattle.round.specs.Premises.{Sha256IsIdRule}

octets_append : (a b : List ℕ) → Octets a → Octets b → Octets (a ++ b)
octets_append [] b h k i = k i
octets_append (x ∷ a) b h k zero = h 0
octets_append (x ∷ a) b h k (suc i) = octets_append a b (λ j. h (suc j)) k i

one_octet : (x : ℕ) → x < 256 → Octets (x ∷ [])
one_octet x h zero = h
one_octet x h (suc i) = omega arith

bytes_octets : (n x : ℕ) → Octets (bytes n x)
unfolding bytes
bytes_octets zero x i = omega arith
bytes_octets (suc n) x i = octets_append (bytes n (x / 256)) (x % 256 ∷ []) (bytes_octets n (x / 256)) (one_octet (x % 256) (omega arith)) i

-- words behind bytes: what holds of all words holds of the whole
behind : List ℕ → List ℕ → List ℕ
behind l [] = l
behind l (x ∷ ws) = behind (l ++ bytes 4 x) ws

behind_octets : (l ws : List ℕ) → Octets l → Octets (behind l ws)
unfolding behind
behind_octets l [] h i = h i
behind_octets l (x ∷ ws) h i = behind_octets (l ++ bytes 4 x) ws (octets_append l (bytes 4 x) h (bytes_octets 4 x)) i

behind_length : (l ws : List ℕ) (n : ℕ) → length l ≡ n → length (behind l ws) ≡ n + 4 * length ws
unfolding behind
behind_length l [] n h = omega arith
behind_length l (x ∷ ws) n h =
    let e : length (l ++ bytes 4 x) ≡ n + 4 = length-append l (bytes 4 x) ∙ ap₂ ◌+◌ h (bytes_length 4 x) in
    omega (arith, behind_length (l ++ bytes 4 x) ws (n + 4) e)

words_behind : State → List ℕ
words_behind H = H.b ∷ H.c ∷ H.d ∷ H.e ∷ H.f ∷ H.g ∷ H.h ∷ []

joined_octets : (H : State) → Octets (joined H)
unfolding joined behind words_behind
joined_octets H = behind_octets (bytes 4 H.a) (words_behind H) (bytes_octets 4 H.a)

joined_length : (H : State) → length (joined H) ≡ 32
unfolding joined behind words_behind
joined_length H = behind_length (bytes 4 H.a) (words_behind H) 4 (bytes_length 4 H.a)

pub sha256_is_id_rule : Sha256IsIdRule
unfolding sha256
sha256_is_id_rule =
    record {
      size = λ b. joined_length (hash (length (padded b) / 64) (padded b));
      bytes = λ b. joined_octets (hash (length (padded b) / 64) (padded b));
    }
