use Rattle.std.proofs.Common.{◌≡◌, ℕ, ◌+◌, ◌-◌, ◌*◌, ◌/◌, ◌^◌, ◌<◌, List, [], ◌∷◌, ◌++◌, length, take, set, sym, ap, ap₂, refl, ◌∙◌, add-one, arith, length-set, length-take, length-drop, take-suc-set}
use lib.Bits.{bit_and, and_mask}
use lib.Pow.{shr-shr}
use Rattle.base.specs.Bytes.{bytes}
use Rattle.base.proofs.put_number.Goals as goal

-- byte i of n, behind those in front of it
next : (l : List ℕ) (n i x : ℕ) → length l ≡ n → i < n → take i l ≡ bytes i (x / 2 ^ (8 * (n - i)))
    → take (i + 1) (set l i (bit_and (x / 2 ^ (8 * (n - 1 - i))) 255)) ≡ bytes (i + 1) (x / 2 ^ (8 * (n - (i + 1))))
unfolding bytes
next l n i x s k e =
    let y = x / 2 ^ (8 * (n - 1 - i)) in
    let here : n - 1 - i ≡ n - (i + 1) = omega arith in
    let before : 8 * (n - 1 - i) + 8 ≡ 8 * (n - i) = omega arith in
    let shift : x / 2 ^ (8 * (n - i)) ≡ y / 256 = ap (λ (j : ℕ). x / 2 ^ j) (sym before) ∙ sym (shr-shr x (8 * (n - 1 - i)) 8) in
    ap (λ (j : ℕ). take j (set l i (bit_and y 255))) (add-one i) ∙ take-suc-set l i (bit_and y 255) (omega arith)
    ∙ ap₂ (λ (z : List ℕ) (v : ℕ). z ++ (v ∷ [])) (e ∙ ap (bytes i) shift) (and_mask y 8)
    ∙ ap₂ (λ (j m : ℕ). bytes j (x / 2 ^ (8 * m))) (sym (add-one i)) here

pub loop-i-init : goal.loop-i-init
unfolding bytes
loop-i-init c = record { size = simp (length-take, length-drop) (omega arith); within = omega arith; so_far = refl }

pub loop-i-preserved : goal.loop-i-preserved
loop-i-preserved c =
    let a = c.args in
    let l = c.loop-i in
    let more : l.i < a.n = let s = l.invariant.size in omega arith in
    record {
      size = simp length-set l.invariant.size;
      within = omega arith;
      so_far = next l.byte-items a.n l.i a.x l.invariant.size more l.invariant.so_far;
    }
