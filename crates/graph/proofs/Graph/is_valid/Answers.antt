use mathlib.Core.Path.{◌≡◌, refl, ap, sym, ◌∙◌}
use Prim.Native.Nat.{ℕ}
use Rattle.base.specs.Tests.{all, below}
use Rattle.base.proofs.Tests.{below_here, below_past}
use Rattle.graph.specs.Memory.{view_of}
use Rattle.graph.specs.LearnerGraph.{valid_at, valid}
use native.Mathlib.Omega.{arith}
use Rattle.graph.proofs.Graph.is_valid.Goals as goal

pub loop-a-init : goal.loop-a-init
loop-a-init c = let a = c.args in let e = c.from-a.ensures in
    (omega (arith, e), ap (λ (j : ℕ). all (λ x. all (λ b. valid_at (view_of a.self.now) x b) (below a.self.now.learners)) (below j)) (sym e))

pub returns-then-not-valid_row : goal.returns-then-not-valid_row
unfolding valid
returns-then-not-valid_row c = let a = c.args in let l = c.loop-a in
    sym (l.invariant.1 ∙ below_here (λ x. all (λ b. valid_at (view_of a.self.now) x b) (below a.self.now.learners)) l.a c.loop-a-test.true (sym c.valid_row.ensures ∙ c.if-not-valid_row.true))

pub loop-a-preserved : goal.loop-a-preserved
loop-a-preserved c = let a = c.args in let l = c.loop-a in
    (omega arith, l.invariant.1 ∙ below_past (λ x. all (λ b. valid_at (view_of a.self.now) x b) (below a.self.now.learners)) l.a c.loop-a-test.true (sym c.valid_row.ensures ∙ c.if-not-valid_row.false))

pub returns : goal.returns
unfolding all below valid
returns c = let a = c.args in let l = c.loop-a in let e : l.a ≡ 0 = omega arith in
    sym (l.invariant.1 ∙ ap (λ (j : ℕ). all (λ x. all (λ b. valid_at (view_of a.self.now) x b) (below a.self.now.learners)) (below j)) e)
