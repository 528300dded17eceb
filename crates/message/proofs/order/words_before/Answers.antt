use mathlib.Core.Path.{◌≡◌, ap, ap₂, sym, ◌∙◌}
use mathlib.Core.Bool.{Bool}
use mathlib.Core.List.{List}
use Prim.Native.Nat.{ℕ, ◌+◌, ◌*◌, ◌-◌, ◌≤◌}
use lib.Dec.{eqb, ltb}
use lib.ListN.{length}
use borrow.Author.Tests.{eq-eqb, ne_eqb}
use native.Mathlib.Omega.{arith}
use Rattle.base.specs.Tests.{pick}
use Rattle.base.specs.Bytes.{be, part, Octets}
use Rattle.message.specs.Layout.{id_len}
use Rattle.message.specs.Order.{before, word_len}
use Rattle.message.proofs.Ascent.{before_number}
use Rattle.message.proofs.order.words_before.Invariants.{rest}
use Rattle.message.proofs.order.words_before.Goals as goal

-- one word of each id compared
step : (s : List ℕ) (a b i : ℕ) → Octets s → i + word_len ≤ id_len → a + id_len ≤ length s → b + id_len ≤ length s → rest s a b i ≡ pick (eqb (be word_len s (a + i)) (be word_len s (b + i))) (rest s a b (i + word_len)) (ltb (be word_len s (a + i)) (be word_len s (b + i)))
step s a b i o h ha hb =
    let k : id_len - i ≡ word_len + (id_len - (i + word_len)) = omega arith in
    let na : a + i + word_len ≡ a + (i + word_len) = omega arith in
    let nb : b + i + word_len ≡ b + (i + word_len) = omega arith in
    ap (λ (n : ℕ). before (part n s (a + i)) (part n s (b + i))) k ∙ before_number word_len (id_len - (i + word_len)) s (a + i) (b + i) o (omega arith) (omega arith)
    ∙ ap₂ (λ (x y : ℕ). pick (eqb (be word_len s (a + i)) (be word_len s (b + i))) (before (part (id_len - (i + word_len)) s x) (part (id_len - (i + word_len)) s y)) (ltb (be word_len s (a + i)) (be word_len s (b + i)))) na nb

-- words v and w, which are the numbers x and y, decide where they differ
differ : (x y v w : ℕ) (r : Bool) → v ≡ x → w ≡ y → (v ≡ w → ⊥) → ltb v w ≡ pick (eqb x y) r (ltb x y)
differ x y v w r ex ey ne = ap₂ ltb ex ey ∙ sym (simp (ne_eqb x y (λ e. ne (ex ∙ e ∙ sym ey))))

-- and leave it to the rest where they agree
agree : (x y v w : ℕ) (r : Bool) → v ≡ x → w ≡ y → v ≡ w → pick (eqb x y) r (ltb x y) ≡ r
agree x y v w r ex ey e = simp (eq-eqb x y (sym ex ∙ e ∙ ey))

pub returns-then-x-y : goal.returns-then-x-y
returns-then-x-y c =
    let g = c.args in
    let s = g.s.now in
    let p = c.requires in
    let words = before_number word_len (id_len - word_len) s g.a g.b (λ j. omega (arith, c.type_inv.s j)) (omega arith) (omega arith) in
    differ (be word_len s g.a) (be word_len s g.b) g.x g.y (rest s g.a g.b word_len) p.first_word p.second_word c.if-x-y.true ∙ sym words

pub loop-k-init : goal.loop-k-init
loop-k-init c =
    let g = c.args in
    let s = g.s.now in
    let p = c.requires in
    let words = before_number word_len (id_len - word_len) s g.a g.b (λ j. omega (arith, c.type_inv.s j)) (omega arith) (omega arith) in
    (omega arith, words ∙ agree (be word_len s g.a) (be word_len s g.b) g.x g.y (rest s g.a g.b word_len) p.first_word p.second_word c.if-x-y.false)

pub returns-then-v-w : goal.returns-then-v-w
returns-then-v-w c =
    let g = c.args in
    let s = g.s.now in
    let i = word_len * c.loop-k.k in
    let words = c.loop-k.invariant.1 ∙ step s g.a g.b i (λ j. omega (arith, c.type_inv.s j)) (omega arith) (omega arith) (omega arith) in
    differ (be word_len s (g.a + i)) (be word_len s (g.b + i)) c.read64-v.result c.read64-w.result (rest s g.a g.b (i + word_len)) c.read64-v.ensures c.read64-w.ensures c.if-v-w.true ∙ sym words

pub loop-k-preserved : goal.loop-k-preserved
loop-k-preserved c =
    let g = c.args in
    let s = g.s.now in
    let i = word_len * c.loop-k.k in
    let words = c.loop-k.invariant.1 ∙ step s g.a g.b i (λ j. omega (arith, c.type_inv.s j)) (omega arith) (omega arith) (omega arith) in
    let more : i + word_len ≡ word_len * (c.loop-k.k + 1) = omega arith in
    (omega arith, words ∙ agree (be word_len s (g.a + i)) (be word_len s (g.b + i)) c.read64-v.result c.read64-w.result (rest s g.a g.b (i + word_len)) c.read64-v.ensures c.read64-w.ensures c.if-v-w.false ∙ ap (rest s g.a g.b) more)

pub returns : goal.returns
unfolding before
returns c =
    let g = c.args in
    let i = word_len * c.loop-k.k in
    let e : id_len - i ≡ 0 = omega arith in
    sym (c.loop-k.invariant.1 ∙ ap (λ (k : ℕ). before (part k g.s.now (g.a + i)) (part k g.s.now (g.b + i))) e)
