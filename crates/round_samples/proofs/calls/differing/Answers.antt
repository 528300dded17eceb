use Rattle.std.proofs.Common.{◌≡◌, ℕ, ◌+◌, Bool, true, false, eqb, List, length, get_or, sym, refl, ap, ◌∙◌, ⊎_elim, add-zero, add-one, arith, eq-eqb, ne_eqb}
use Rattle.base.specs.Tests.{pick}
use Rattle.round_samples.specs.Calls.{left_by, differing_in}
use Rattle.round_samples.proofs.calls.differing.Goals as goal
use Rattle.round_samples.proofs.calls.differing.Goals.{then-buffer-i, else-buffer-i}

one_more : (i : ℕ) (b r : List ℕ) → differing_in (i + 1) b r ≡ differing_in i b r + pick (eqb (get_or b i 0) (left_by r i)) 0 1
unfolding differing_in
one_more i b r = ap (λ (k : ℕ). differing_in k b r) (add-one i)

pub loop-i-init : goal.loop-i-init
unfolding differing_in
loop-i-init c = (omega arith, (omega arith, refl))

pub loop-i-preserved : goal.loop-i-preserved
loop-i-preserved c =
    let l = c.loop-i in
    let a = c.args in
    let b = a.buffer.now in
    let r = a.reply.now in
    let same = c.left_by.ensures in
    let d = l.invariant.1.1 in
    let next = one_more l.i b r in
    elim c.if-buffer-i.branch [
      | then-buffer-i w ↦
          let n : c.if-buffer-i.n ≡ l.n + 1 = w.n-is in
          let p : eqb (get_or b l.i 0) (left_by r l.i) ≡ false = ne_eqb (get_or b l.i 0) (left_by r l.i) (λ e. w.if-buffer-i.true (e ∙ sym same)) in
          (omega arith, (omega arith, n ∙ ap (λ (k : ℕ). k + 1) d ∙ sym (next ∙ ap (λ (t : Bool). differing_in l.i b r + pick t 0 1) p)))
      | else-buffer-i w ↦
          let n : c.if-buffer-i.n ≡ l.n = w.n-is in
          let p : eqb (get_or b l.i 0) (left_by r l.i) ≡ true = eq-eqb (get_or b l.i 0) (left_by r l.i) (w.if-buffer-i.false ∙ same) in
          (omega arith, (omega arith, n ∙ d ∙ sym (next ∙ ap (λ (t : Bool). differing_in l.i b r + pick t 0 1) p ∙ add-zero (differing_in l.i b r))))
    ]

pub returns : goal.returns
returns c =
    let l = c.loop-i in
    let a = c.args in
    let e : l.i ≡ length a.buffer.now = omega arith in
    l.invariant.1.1 ∙ ap (λ (k : ℕ). differing_in k a.buffer.now a.reply.now) e
