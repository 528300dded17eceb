-- The places of a vote, at the front of an array.
use mathlib.Core.Path.{◌≡◌, refl, ap, ◌∙◌}
use mathlib.Core.List.{List, ◌++◌}
use Prim.Native.Nat.{ℕ, ◌+◌, ◌-◌, ◌≤◌}
use lib.ListN.{length, take, drop, replicate}
use lib.Seq.{take_at}
use native.Mathlib.Omega.{arith}
use Rattle.std.proofs.lemmas.List.{drop-replicate, length-take}
use Rattle.base.specs.Bytes.{put_at}
use Rattle.round.specs.Limits.{max_held}
use Rattle.admission.specs.declared.rows.Vote.{Vote}
use Rattle.admission.specs.Inside.Votes.{filled, refers_to, vote_of}

filled_front : (l : List ℕ) → take (length l) (filled l) ≡ l
filled_front l = take_at l (replicate (max_held - length l) 0) (length l) refl

-- a vote that was made of places refers to them
pub vote_refers : (v : Vote) (signer previous : ℕ) (l : List ℕ) → v ≡ vote_of signer previous l → refers_to v ≡ l
vote_refers v signer previous l e = ap refers_to e ∙ filled_front l

-- and none refers to more than there are
pub refers_most : (v : Vote) → length v.places ≡ max_held → length (refers_to v) ≤ max_held
refers_most v e = omega (arith, length-take v.count v.places)

-- they are put into zeros
pub filled_put : (l : List ℕ) → put_at (replicate max_held 0) 0 l ≡ filled l
filled_put l =
    let e : 0 + length l ≡ length l = omega arith in
    ap (λ (k : ℕ). l ++ drop k (replicate max_held 0)) e ∙ ap (λ (x : List ℕ). l ++ x) (drop-replicate (length l) max_held 0)
