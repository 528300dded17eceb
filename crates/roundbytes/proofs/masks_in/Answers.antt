use mathlib.Core.Path.{refl, ap, ap₂, sym, ◌∙◌}
use mathlib.Core.List.{List, [], ◌∷◌, ◌++◌}
use Prim.Native.Nat.{ℕ}
use native.Mathlib.Numerals.{add-one}
use lib.ListN.{take, set, length-set}
use lib.Seq.{take-suc-set}
use Rattle.roundbytes.specs.Layout.{numbers, masks_at}
use native.Mathlib.Omega.{arith}
use Rattle.roundbytes.proofs.masks_in.Goals as goal

pub loop-i-init : goal.loop-i-init
unfolding numbers
loop-i-init c = (omega arith, (refl, refl))

pub loop-i-preserved : goal.loop-i-preserved
unfolding numbers
loop-i-preserved c = let a = c.args in
    let l = c.loop-i in
    let x = c.read32.result in (
      omega arith,
      (
        length-set l.mask-items l.i x ∙ l.invariant.1.0,
        ap (λ (n : ℕ). take n (set l.mask-items l.i x)) (add-one l.i) ∙ take-suc-set l.mask-items l.i x (omega arith)
            ∙ ap₂ (λ (p : List ℕ) (y : ℕ). p ++ (y ∷ [])) l.invariant.1.1 c.read32.ensures
            ∙ sym (ap (λ (n : ℕ). numbers 4 n a.s.now masks_at) (add-one l.i)),
      ),
    )
