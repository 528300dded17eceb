-- The set of the places that fork with one before them.
use mathlib.Core.Path.{◌≡◌, sym, subst}
use mathlib.Core.Logic.{◌⊎◌, inl, inr}
use mathlib.Core.Bool.{not, ◌&&◌, ◌||◌}
use mathlib.Core.List.{List}
use Prim.Native.Nat.{ℕ, ◌+◌, ◌<◌}
use native.Mathlib.Decide.{ℕ_discrete}
use native.Mathlib.Omega.{arith}
use lib.Dec.{T, eqb, eqb→eq}
use lib.ListN.{get_or, set}
use lib.Seq.{get_or-set_same, get_or-set_other}
use Rattle.base.proofs.Tests.{dec_T, eq→eqb, and_in, or_l, or_r}
use Rattle.places.specs.Inside.PlaceSets.{in_set, Column}
use Rattle.places.proofs.Membership.{in_zero}
use Rattle.notes.specs.Inside.Index.{Marked}
use Rattle.round.specs.Limits.{max_held}

-- a set with a place is not empty
not_empty : (low high k : ℕ) → T (in_set low high k) → T (not (eqb low 0) || not (eqb high 0))
not_empty low high k h = step (dec_T (eqb low 0)) (dec_T (eqb high 0))
  where
    step : T (eqb low 0) ⊎ T (not (eqb low 0)) → T (eqb high 0) ⊎ T (not (eqb high 0)) → T (not (eqb low 0) || not (eqb high 0))
    step (inr a) b = or_l (not (eqb low 0)) (not (eqb high 0)) a
    step (inl a) (inr b) = or_r (not (eqb low 0)) (not (eqb high 0)) b
    step (inl a) (inl b) =
        absurd (subst T (in_zero k) (subst (λ (x : ℕ). T (in_set x 0 k)) (eqb→eq low 0 a) (subst (λ (x : ℕ). T (in_set low x k)) (eqb→eq high 0 b) h)))

-- one place more
pub marked_more : (forkLow forkHigh : List ℕ) → Column forkLow → Column forkHigh → (p : ℕ) → p < max_held → (low high : ℕ) → Marked p forkLow forkHigh low high → (fl fh low' high' : ℕ)
    → ((q : ℕ) → q < max_held → in_set low' high' q ≡ (((not (eqb fl 0) || not (eqb fh 0)) && eqb p q) || in_set low high q))
    → Marked (p + 1) (set forkLow p fl) (set forkHigh p fh) low' high'
marked_more forkLow forkHigh w₁ w₂ p small low high marked fl fh low' high' hs j k lj lk h = subst T (sym (hs j (omega arith))) (step (ℕ_discrete j p))
  where
    step : Dec (j ≡ p) → T (((not (eqb fl 0) || not (eqb fh 0)) && eqb p j) || in_set low high j)
    step (yes e) =
        let x : T (in_set (get_or (set forkLow p fl) p 0) (get_or (set forkHigh p fh) p 0) k) = subst (λ (i : ℕ). T (in_set (get_or (set forkLow p fl) i 0) (get_or (set forkHigh p fh) i 0) k)) e h in
        let y : T (in_set fl fh k) = rw (get_or-set_same forkLow p fl 0 (omega arith), get_or-set_same forkHigh p fh 0 (omega arith)) at x in
        or_l ((not (eqb fl 0) || not (eqb fh 0)) && eqb p j) (in_set low high j) (and_in (not (eqb fl 0) || not (eqb fh 0)) (eqb p j) (not_empty fl fh k y) (eq→eqb (sym e)))
    step (no e) =
        let y : T (in_set (get_or forkLow j 0) (get_or forkHigh j 0) k) = rw (get_or-set_other forkLow p j fl 0 e, get_or-set_other forkHigh p j fh 0 e) at h in
        or_r ((not (eqb fl 0) || not (eqb fh 0)) && eqb p j) (in_set low high j) (marked j k (omega arith) lk y)
