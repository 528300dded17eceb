use mathlib.Core.Bool.{◌&&◌, false, true}
use mathlib.Core.List.{List}
use mathlib.Core.Path.{◌≡◌, ap₂, sym, ◌∙◌}
use Prim.Native.Nat.{ℕ, ◌+◌, ◌≤◌}
use lib.Dec.{eqb}
use lib.ListN.{length}
use borrow.Author.Tests.{eq-eqb, eqb-true, ne_eqb}
use native.Mathlib.Omega.{arith}
use Rattle.base.specs.Bytes.{be, part, Octets}
use Rattle.message.specs.Layout.{id_len}
use Rattle.protocol.specs.Ids.{same_id}
use Rattle.admission.proofs.Finding.{same_words}
use Rattle.admission.proofs.lookup.same_rest.Goals as goal
use Rattle.admission.proofs.lookup.same_rest.Goals.{then-read64, else-read64}

-- two ids whose first words are equal are the same if their other three words are
same_three : (a b : List ℕ) → Octets a → Octets b → (i j : ℕ) → i + id_len ≤ length a → j + id_len ≤ length b → be 8 a i ≡ be 8 b j
    → same_id (part id_len a i) (part id_len b j) ≡ (eqb (be 8 a (i + 8)) (be 8 b (j + 8)) && (eqb (be 8 a (i + 16)) (be 8 b (j + 16)) && eqb (be 8 a (i + 24)) (be 8 b (j + 24))))
same_three a b oa ob i j ha hb e = same_words a b oa ob i j ha hb ∙ simp (eq-eqb (be 8 a i) (be 8 b j) e)

pub returns-then-read64-2 : goal.returns-then-read64-2
returns-then-read64-2 c =
    let g = c.args in
    let p = c.requires in
    let a = g.a.now in
    let b = g.b.now in
    let words = same_three a b (λ k. omega (arith, c.type_inv.a k)) (λ k. omega (arith, c.type_inv.b k)) g.i g.j p.0 p.1.0 p.1.1 in
    elim c.if-read64.branch [
      | then-read64 w ↦
          let second : eqb (be 8 a (g.i + 16)) (be 8 b (g.j + 16)) ≡ true = sym (ap₂ eqb w.read64-then-read64.ensures w.read64-then-read64-2.ensures) ∙ sym w.value-is ∙ c.if-read64-2.true in
          ap₂ eqb c.read64-then-read64-2-2.ensures c.read64-then-read64-2-3.ensures
          ∙ sym (words ∙ simp (eq-eqb (be 8 a (g.i + 8)) (be 8 b (g.j + 8)) (omega (arith, w.if-read64.true)), second))
      | else-read64 w ↦ absurd (w.if-read64.false (eqb-true c.read64.result c.read64-2.result (sym w.value-is ∙ c.if-read64-2.true)))
    ]

pub returns-else-read64-2 : goal.returns-else-read64-2
returns-else-read64-2 c =
    let g = c.args in
    let p = c.requires in
    let a = g.a.now in
    let b = g.b.now in
    let words = same_three a b (λ k. omega (arith, c.type_inv.a k)) (λ k. omega (arith, c.type_inv.b k)) g.i g.j p.0 p.1.0 p.1.1 in
    elim c.if-read64.branch [
      | then-read64 w ↦
          let second : eqb (be 8 a (g.i + 16)) (be 8 b (g.j + 16)) ≡ false = sym (ap₂ eqb w.read64-then-read64.ensures w.read64-then-read64-2.ensures) ∙ sym w.value-is ∙ c.if-read64-2.false in
          c.if-read64-2.false ∙ sym (words ∙ simp (eq-eqb (be 8 a (g.i + 8)) (be 8 b (g.j + 8)) (omega (arith, w.if-read64.true)), second))
      | else-read64 w ↦ c.if-read64-2.false ∙ sym (words ∙ simp (ne_eqb (be 8 a (g.i + 8)) (be 8 b (g.j + 8)) (λ e. omega (arith, w.if-read64.false))))
    ]
