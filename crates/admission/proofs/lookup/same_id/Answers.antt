use mathlib.Core.Path.{sym, ◌∙◌}
use borrow.Author.Tests.{ne_eqb}
use native.Mathlib.Omega.{arith}
use Rattle.admission.proofs.Finding.{first_differs}
use Rattle.admission.proofs.lookup.same_id.Goals as goal

pub returns-else-read64 : goal.returns-else-read64
returns-else-read64 c =
    let a = c.args in
    ne_eqb c.read64.result c.read64-2.result c.if-read64.false
    ∙ sym (first_differs a.a.now a.b.now (λ k. omega (arith, c.type_inv.a k)) (λ k. omega (arith, c.type_inv.b k)) a.i a.j c.requires.0 c.requires.1 (λ e. omega (arith, c.if-read64.false)))
