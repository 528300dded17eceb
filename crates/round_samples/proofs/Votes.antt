-- An acceptor message that names a previous one, with nothing left to ask of the id.
use Rattle.std.proofs.Common.{◌≡◌, ℕ, true, not, eqb, List, [], ◌∷◌, ◌++◌, length, sym, ap}
use Rattle.message.specs.Layout.{acceptor_kind, id_len, marker, acceptor_len}
use Rattle.message.specs.Writer.{head_bytes}
use Rattle.round_samples.specs.Papers.{vote_of}

pub named : (signer : ℕ) (previous : List ℕ) (n : ℕ) (ids : List ℕ) → length previous ≡ id_len
    → head_bytes (acceptor_len true n) acceptor_kind 1 12 signer ++ (1 ∷ []) ++ previous ++ (n ∷ []) ++ ids ≡ vote_of signer previous n ids
named signer previous n ids h =
    ap
    (λ (k : ℕ). head_bytes (acceptor_len (not (eqb k 0)) n) acceptor_kind 1 12 signer ++ (marker (not (eqb k 0)) ∷ []) ++ previous ++ (n ∷ []) ++ ids)
    (sym h)
