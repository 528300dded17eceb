use mathlib.Core.Path.{◌≡◌, refl, ap, sym, ◌∙◌}
use Prim.Native.Nat.{ℕ}
use Rattle.base.specs.Tests.{all, below}
use Rattle.base.proofs.Tests.{below_here, below_past}
use Rattle.graph.specs.Memory.{view_of}
use Rattle.graph.specs.LearnerGraph.{condensed_at, condensed}
use native.Mathlib.Omega.{arith}
use Rattle.graph.proofs.Graph.is_condensed.Goals as goal

pub loop-a-init : goal.loop-a-init
loop-a-init c = let a = c.args in let e = c.from-a.ensures in
    (omega (arith, e), ap (λ (j : ℕ). all (λ x. all (λ b. all (λ c. condensed_at (view_of a.self.now) x b c) (below a.self.now.learners)) (below a.self.now.learners)) (below j)) (sym e))

pub returns-then-not-condensed_row : goal.returns-then-not-condensed_row
unfolding condensed
returns-then-not-condensed_row c = let a = c.args in let l = c.loop-a in
    sym (l.invariant.1 ∙ below_here (λ x. all (λ b. all (λ c. condensed_at (view_of a.self.now) x b c) (below a.self.now.learners)) (below a.self.now.learners)) l.a c.loop-a-test.true (sym c.condensed_row.ensures ∙ c.if-not-condensed_row.true))

pub loop-a-preserved : goal.loop-a-preserved
loop-a-preserved c = let a = c.args in let l = c.loop-a in
    (omega arith, l.invariant.1 ∙ below_past (λ x. all (λ b. all (λ c. condensed_at (view_of a.self.now) x b c) (below a.self.now.learners)) (below a.self.now.learners)) l.a c.loop-a-test.true (sym c.condensed_row.ensures ∙ c.if-not-condensed_row.false))

pub returns : goal.returns
unfolding all below condensed
returns c = let a = c.args in let l = c.loop-a in let e : l.a ≡ 0 = omega arith in
    sym (l.invariant.1 ∙ ap (λ (j : ℕ). all (λ x. all (λ b. all (λ c. condensed_at (view_of a.self.now) x b c) (below a.self.now.learners)) (below a.self.now.learners)) (below j)) e)
