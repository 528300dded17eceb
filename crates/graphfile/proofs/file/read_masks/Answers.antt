use mathlib.Core.Path.{◌≡◌, refl, ap, ap₂, sym, ◌∙◌, subst}
use Prim.Native.Nat.{ℕ, suc, ◌-◌, ◌+◌}
use lib.ListN.{length-set, length-append}
use Rattle.std.proofs.Common.{Ok, Err}
use mathlib.Core.List.{List, [], ◌∷◌, ◌++◌}
use Rattle.base.specs.Bytes.{be}
use Rattle.graphfile.specs.File.{Got, mask_answer, read_masks}
use Rattle.graphfile.specs.Inside.Steps.{MasksHeld}
use Rattle.graph.specs.Limits.{mask_bytes}
use Rattle.base.specs.declared.refusal.Refusal.TheVariants.{Length}
use Rattle.graphfile.proofs.Reader.{part_lent, put_more, masks_short, masks_go}
use borrow.Author.Rules.{rules}
use native.Mathlib.Omega.{arith}
use Rattle.graphfile.proofs.file.read_masks.Goals as goal

pub returns-then-s-here : goal.returns-then-s-here
returns-then-s-here c = let a = c.args in let l = c.loop-j in let (hj, hh, hl, e, le, me, re) = l.invariant in let k : a.count - l.j ≡ suc (a.count - (l.j + 1)) = omega arith in
    subst (λ (g : Got (List ℕ)). MasksHeld g (Err Length) a.first a.masks.now l.masks)
    (sym (re ∙ ap (λ (x : ℕ). read_masks a.s.now a.acceptors x e l.here) k ∙ masks_short a.s.now a.acceptors (a.count - (l.j + 1)) e l.here c.if-s-here.true)) refl

pub returns-in_err-mask_answer : goal.returns-in_err-mask_answer
returns-in_err-mask_answer c = let a = c.args in let l = c.loop-j in let (hj, hh, hl, e, le, me, re) = l.invariant in let k : a.count - l.j ≡ suc (a.count - (l.j + 1)) = omega arith in
    let q = part_lent a.masks.now e l.masks a.first l.j me le (omega arith) in
    let r = c.in_err-mask_answer.field-0.0 in
    let d : c.from_residual.result ≡ Err r = search rules in
    let f : mask_answer a.acceptors e (be mask_bytes a.s.now l.here) ≡ Err r = sym (ap₂ (mask_answer a.acceptors) q c.read_mask-m.ensures) ∙ sym c.mask_answer.ensures ∙ c.in_err-mask_answer.was in
    subst (λ (g : Got (List ℕ)). MasksHeld g c.from_residual.result a.first a.masks.now l.masks)
    (sym (re ∙ ap (λ (x : ℕ). read_masks a.s.now a.acceptors x e l.here) k ∙ masks_go a.s.now a.acceptors (a.count - (l.j + 1)) e l.here (Err r) c.if-s-here.false f)) d

pub loop-j-preserved : goal.loop-j-preserved
loop-j-preserved c = let a = c.args in let l = c.loop-j in let (hj, hh, hl, e, le, me, re) = l.invariant in let k : a.count - l.j ≡ suc (a.count - (l.j + 1)) = omega arith in
    let q = part_lent a.masks.now e l.masks a.first l.j me le (omega arith) in
    let m = c.read_mask-m.result in
    let f : mask_answer a.acceptors e (be mask_bytes a.s.now l.here) ≡ Ok tt = sym (ap₂ (mask_answer a.acceptors) q c.read_mask-m.ensures) ∙ sym c.mask_answer.ensures ∙ c.in_ok-mask_answer.was in (
      omega arith,
      c.if-s-here.false,
      length-set l.masks (a.first + l.j) m ∙ hl,
      e ++ (m ∷ []),
      length-append e (m ∷ []) ∙ ap (λ (x : ℕ). x + 1) le,
      put_more a.masks.now e l.masks a.first l.j m me le (omega arith),
      re ∙ ap (λ (x : ℕ). read_masks a.s.now a.acceptors x e l.here) k ∙ masks_go a.s.now a.acceptors (a.count - (l.j + 1)) e l.here (Ok tt) c.if-s-here.false f
          ∙ ap (λ (x : ℕ). read_masks a.s.now a.acceptors (a.count - (l.j + 1)) (e ++ (x ∷ [])) (l.here + mask_bytes)) (sym c.read_mask-m.ensures),
    )

pub returns : goal.returns
unfolding read_masks
returns c = let a = c.args in let l = c.loop-j in let (hj, hh, hl, e, le, me, re) = l.invariant in let k : a.count - l.j ≡ 0 = omega arith in
    subst (λ (g : Got (List ℕ)). MasksHeld g (Ok l.here) a.first a.masks.now l.masks)
    (sym (re ∙ ap (λ (x : ℕ). read_masks a.s.now a.acceptors x e l.here) k)) (refl, me)
