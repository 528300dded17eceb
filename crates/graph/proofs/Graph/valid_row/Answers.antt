use mathlib.Core.Path.{◌≡◌, refl, ap, sym, ◌∙◌}
use Prim.Native.Nat.{ℕ}
use Rattle.base.specs.Tests.{all, below}
use Rattle.base.proofs.Tests.{below_here, below_past}
use Rattle.graph.specs.Memory.{view_of}
use Rattle.graph.specs.LearnerGraph.{valid_at}
use native.Mathlib.Omega.{arith}
use Rattle.graph.proofs.Graph.valid_row.Goals as goal

pub loop-b-init : goal.loop-b-init
loop-b-init c = let a = c.args in let e = c.from-b.ensures in
    (omega (arith, e), ap (λ (j : ℕ). all (λ b. valid_at (view_of a.self.now) a.a b) (below j)) (sym e))

pub returns-then-not-valid_at : goal.returns-then-not-valid_at
returns-then-not-valid_at c = let a = c.args in let l = c.loop-b in
    sym (l.invariant.1 ∙ below_here (λ b. valid_at (view_of a.self.now) a.a b) l.b c.loop-b-test.true (sym c.valid_at.ensures ∙ c.if-not-valid_at.true))

pub loop-b-preserved : goal.loop-b-preserved
loop-b-preserved c = let a = c.args in let l = c.loop-b in
    (omega arith, l.invariant.1 ∙ below_past (λ b. valid_at (view_of a.self.now) a.a b) l.b c.loop-b-test.true (sym c.valid_at.ensures ∙ c.if-not-valid_at.false))

pub returns : goal.returns
unfolding all below
returns c = let a = c.args in let l = c.loop-b in let e : l.b ≡ 0 = omega arith in
    sym (l.invariant.1 ∙ ap (λ (j : ℕ). all (λ b. valid_at (view_of a.self.now) a.a b) (below j)) e)
