-- The largest entry at some places, front to back.
use mathlib.Core.Path.{◌≡◌, refl, ap, ◌∙◌}
use mathlib.Core.List.{List, [], ◌∷◌, ◌++◌}
use Prim.Native.Nat.{ℕ, ◌+◌, ◌<◌, max}
use native.Mathlib.Numerals.{add-one}
use native.Mathlib.Omega.{arith}
use lib.ListN.{length, get_or, take}
use lib.Seq.{take-suc}
use Rattle.scan.specs.Inside.Arrays.{highest}

highest_snoc : (tops l : List ℕ) (x : ℕ) → highest tops (l ++ (x ∷ [])) ≡ max (get_or tops x 0) (highest tops l)
unfolding highest
highest_snoc tops [] x = refl
highest_snoc tops (y ∷ l) x = let e = highest_snoc tops l x in omega arith

pub highest_take : (tops l : List ℕ) (i : ℕ) → i < length l → highest tops (take (i + 1) l) ≡ max (get_or tops (get_or l i 0) 0) (highest tops (take i l))
highest_take tops l i h = ap (λ (n : ℕ). highest tops (take n l)) (add-one i) ∙ ap (highest tops) (take-suc l i 0 h) ∙ highest_snoc tops (take i l) (get_or l i 0)
