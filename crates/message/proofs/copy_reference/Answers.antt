use mathlib.Core.Path.{◌≡◌, refl, ap, sym, ◌∙◌}
use mathlib.Core.List.{[]}
use Prim.Native.Nat.{ℕ, ◌+◌, ◌-◌}
use lib.ListN.{length, take, drop}
use borrow.Author.Tests.{le-ltb}
use Rattle.base.specs.Bytes.{part, put_at}
use Rattle.base.proofs.Bytes.{more}
use Rattle.std.proofs.Common.{Result}
use Rattle.base.specs.declared.refusal.Refusal.{Refusal}
use Rattle.message.specs.Writer.{copied_from, copy_answer}
use native.Mathlib.Omega.{arith}
use Rattle.message.proofs.copy_reference.Goals as goal

pub returns : goal.returns
returns c =
    let a = c.args in
    let s = a.bytes.now in
    let at = c.in_ok-at.at in
    let l = le-ltb (length a.id.now) 32 c.if-id-lt-ID_LEN.false in
    let e = sym c.in_ok-at.was ∙ c.reference.ensures in
    let k : at + 32 - at ≡ 32 = omega arith in
    let w = c.put_all.ensures ∙ ap (λ (x : ℕ). put_at a.id.now 0 (take x (drop at s))) k in
    let f = more [] (part 32 s at) a.id.now a.id.now c.put_all.new.buf refl w in
    (ap copy_answer e ∙ sym (simp l), f ∙ ap (λ (x : Result ℕ Refusal). copied_from s x a.id.now) e ∙ sym (simp l))
