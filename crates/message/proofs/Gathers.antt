-- Laws of the ids gathered from a table.
use mathlib.Core.Path.{◌≡◌, ◌∙◌}
use mathlib.Core.List.{List}
use Prim.Native.Nat.{ℕ, zero, suc, ◌+◌, ◌*◌, ◌≤◌, ◌<◌}
use native.Mathlib.Omega.{arith}
use lib.ListN.{length, get_or, length-append}
use Rattle.base.specs.Bytes.{part}
use Rattle.base.proofs.Bytes.{part_length}
use Rattle.message.specs.Inside.Writing.{gathered}

-- n ids are 32 * n bytes
pub gathered_length : (n : ℕ) (ids places : List ℕ) → ((i : ℕ) → i < n → 32 * get_or places i 0 + 32 ≤ length ids) → length (gathered n ids places) ≡ 32 * n
unfolding gathered
gathered_length zero ids places h = omega arith
gathered_length (suc n) ids places h =
    let g = gathered_length n ids places (λ i k. h i (omega arith)) in
    let p = part_length 32 ids (32 * get_or places n 0) (h n (omega arith)) in
    length-append (gathered n ids places) (part 32 ids (32 * get_or places n 0)) ∙ omega arith
