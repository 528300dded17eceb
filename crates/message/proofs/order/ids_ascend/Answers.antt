use mathlib.Core.Path.{◌≡◌, ap, ap₂, sym, ◌∙◌}
use mathlib.Core.Bool.{false}
use mathlib.Core.List.{List}
use Prim.Native.Nat.{ℕ, suc, ◌+◌, ◌*◌, ◌-◌, ◌<◌}
use Rattle.base.specs.Tests.{pick}
use Rattle.base.specs.Bytes.{be, part}
use Rattle.message.specs.Layout.{id_len}
use Rattle.message.specs.Order.{before, ascending, word_len}
use native.Mathlib.Omega.{arith}
use Rattle.message.proofs.order.ids_ascend.Goals as goal

-- one pair compared
step : (s : List ℕ) (at left : ℕ) → 0 < left → ascending left s at ≡ pick (before (part id_len s at) (part id_len s (at + id_len))) (ascending (left - 1) s (at + id_len)) false
unfolding ascending
step s at left h = let e : left ≡ suc (left - 1) = omega arith in ap (λ (n : ℕ). ascending n s at) e

pub returns-then-not-words_before : goal.returns-then-not-words_before
returns-then-not-words_before c =
    let s = c.args.s.now in
    let l = c.loop-i in
    sym (l.invariant.1.1 ∙ step s (c.args.from + id_len * l.i) (c.args.n - l.i) (omega arith) ∙ simp (sym c.words_before.ensures ∙ c.if-not-words_before.true))

pub loop-i-preserved : goal.loop-i-preserved
loop-i-preserved c =
    let s = c.args.s.now in
    let l = c.loop-i in
    let passed = sym c.words_before.ensures ∙ c.if-not-words_before.false in
    let e : c.args.from + id_len * l.i + id_len ≡ c.args.from + id_len * (l.i + 1) = omega arith in
    let k : c.args.n - l.i - 1 ≡ c.args.n - (l.i + 1) = omega arith in (
      omega arith,
      (
        c.read64-next.ensures ∙ ap (be word_len s) e,
        l.invariant.1.1 ∙ step s (c.args.from + id_len * l.i) (c.args.n - l.i) (omega arith) ∙ (simp passed) ∙ ap₂ (λ (x y : ℕ). ascending x s y) k e,
      ),
    )

pub returns : goal.returns
unfolding ascending
returns c =
    let l = c.loop-i in
    let e : c.args.n - l.i ≡ 0 = omega arith in
    sym (l.invariant.1.1 ∙ ap (λ (k : ℕ). ascending k c.args.s.now (c.args.from + id_len * l.i)) e)
