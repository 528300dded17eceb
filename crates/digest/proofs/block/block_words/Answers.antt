use Rattle.std.proofs.Common.{◌≡◌, ℕ, suc, List, [], ◌∷◌, ◌++◌, take, set, sym, refl, ap, ◌∙◌, ap₂, add-one, arith, length-set, take-suc-set}
use Rattle.digest.specs.Preprocessing.{words}
use Rattle.digest.proofs.block.block_words.Goals as goal

pub loop-t-init : goal.loop-t-init
unfolding words
loop-t-init c = (omega arith, (refl, refl))

pub loop-t-preserved : goal.loop-t-preserved
unfolding words
loop-t-preserved c =
    let b = c.args.block.now in
    let l = c.loop-t in
    let x = c.read32.result in
    let step : take (suc l.t) (set l.w l.t x) ≡ take l.t l.w ++ (x ∷ []) = take-suc-set l.w l.t x (omega (arith, l.invariant.1.0)) in (
      omega arith,
      (
        length-set l.w l.t x ∙ l.invariant.1.0,
        ap (λ (n : ℕ). take n (set l.w l.t x)) (add-one l.t) ∙ step
            ∙ ap₂ (λ (p : List ℕ) (y : ℕ). p ++ (y ∷ [])) l.invariant.1.1 c.read32.ensures
            ∙ sym (ap (λ (n : ℕ). words n b) (add-one l.t)),
      ),
    )
