use mathlib.Core.Path.{◌≡◌, refl, ap, sym, ◌∙◌}
use Prim.Native.Nat.{ℕ}
use Rattle.base.specs.Tests.{all, below}
use Rattle.base.proofs.Tests.{below_here, below_past}
use Rattle.graph.specs.Memory.{view_of}
use Rattle.graph.specs.LearnerGraph.{condensed_at}
use native.Mathlib.Omega.{arith}
use Rattle.graph.proofs.Graph.condensed_row.Goals as goal

pub loop-b-init : goal.loop-b-init
loop-b-init c = let a = c.args in let e = c.from-b.ensures in
    (omega (arith, e), ap (λ (j : ℕ). all (λ b. all (λ c. condensed_at (view_of a.self.now) a.a b c) (below a.self.now.learners)) (below j)) (sym e))

pub returns-then-not-condensed_pair : goal.returns-then-not-condensed_pair
returns-then-not-condensed_pair c = let a = c.args in let l = c.loop-b in
    sym (l.invariant.1 ∙ below_here (λ b. all (λ c. condensed_at (view_of a.self.now) a.a b c) (below a.self.now.learners)) l.b c.loop-b-test.true (sym c.condensed_pair.ensures ∙ c.if-not-condensed_pair.true))

pub loop-b-preserved : goal.loop-b-preserved
loop-b-preserved c = let a = c.args in let l = c.loop-b in
    (omega arith, l.invariant.1 ∙ below_past (λ b. all (λ c. condensed_at (view_of a.self.now) a.a b c) (below a.self.now.learners)) l.b c.loop-b-test.true (sym c.condensed_pair.ensures ∙ c.if-not-condensed_pair.false))

pub returns : goal.returns
unfolding all below
returns c = let a = c.args in let l = c.loop-b in let e : l.b ≡ 0 = omega arith in
    sym (l.invariant.1 ∙ ap (λ (j : ℕ). all (λ b. all (λ c. condensed_at (view_of a.self.now) a.a b c) (below a.self.now.learners)) (below j)) e)
