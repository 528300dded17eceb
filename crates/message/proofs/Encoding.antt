-- Lengths of what is written.
use mathlib.Core.Path.{◌≡◌, refl, ◌∙◌}
use mathlib.Core.Bool.{Bool, true, false}
use mathlib.Core.Logic.{◌⊎◌, inl, inr}
use mathlib.Core.List.{List, [], ◌∷◌, ◌++◌}
use Prim.Native.Nat.{ℕ, ◌*◌}
use native.Mathlib.Omega.{arith}
use lib.ListN.{length, length-append}
use borrow.Author.Tests.{eq-eqb, ne_eqb}
use Rattle.std.specs.Int.{from_bool}
use Rattle.base.specs.Tests.{pick}
use Rattle.base.specs.Bytes.{bytes}
use Rattle.message.specs.declared.Proposal.{Proposal}
use Rattle.message.specs.Layout.{marker, acceptor_len}
use Rattle.message.specs.Writer.{head_bytes, proposal_bytes, has_previous, acceptor_bytes}

pub head_length : (len kind house bay signer : ℕ) → length (head_bytes len kind house bay signer) ≡ 9
unfolding bytes
head_length len kind house bay signer = refl

pub proposal_length_lem : (p : Proposal) → length (proposal_bytes p) ≡ 17
unfolding bytes
proposal_length_lem p = refl

-- the marker's byte
pub marker_byte : (b : Bool) → from_bool b ≡ marker b
marker_byte true = refl
marker_byte false = refl

-- a previous id that is none or whole takes the bytes that its marker says
pub previous_span : (previous : List ℕ) → (length previous ≡ 0) ⊎ (length previous ≡ 32) → length previous ≡ pick (has_previous previous) 32 0
previous_span previous (inl h) = h ∙ simp (eq-eqb (length previous) 0 h)
previous_span previous (inr h) = h ∙ simp (ne_eqb (length previous) 0 (λ e. omega arith))

pub acceptor_length_lem : (house bay signer : ℕ) (previous : List ℕ) (n : ℕ) (ids : List ℕ) → length previous ≡ pick (has_previous previous) 32 0 → length ids ≡ 32 * n
    → length (acceptor_bytes house bay signer previous n ids) ≡ acceptor_len (has_previous previous) n
acceptor_length_lem house bay signer previous n ids e f =
    let h = head_bytes (acceptor_len (has_previous previous) n) 2 house bay signer in
    let m = marker (has_previous previous) ∷ [] in
    let l₀ = head_length (acceptor_len (has_previous previous) n) 2 house bay signer in
    let l₁ = length-append h m in
    let l₂ = length-append (h ++ m) previous in
    let l₃ = length-append (h ++ m ++ previous) (n ∷ []) in
    let l₄ = length-append (h ++ m ++ previous ++ (n ∷ [])) ids in
    omega arith
