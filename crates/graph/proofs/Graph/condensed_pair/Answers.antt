use mathlib.Core.Path.{◌≡◌, refl, ap, sym, ◌∙◌}
use Prim.Native.Nat.{ℕ}
use Rattle.base.specs.Tests.{all, below}
use Rattle.base.proofs.Tests.{below_here, below_past}
use Rattle.graph.specs.Memory.{view_of}
use Rattle.graph.specs.LearnerGraph.{condensed_at}
use native.Mathlib.Omega.{arith}
use Rattle.graph.proofs.Graph.condensed_pair.Goals as goal

pub loop-c-init : goal.loop-c-init
loop-c-init c = let a = c.args in let e = c.from-c.ensures in
    (omega (arith, e), ap (λ (j : ℕ). all (λ c. condensed_at (view_of a.self.now) a.a a.b c) (below j)) (sym e))

pub returns-then-not-condensed_at : goal.returns-then-not-condensed_at
returns-then-not-condensed_at c = let a = c.args in let l = c.loop-c in
    sym (l.invariant.1 ∙ below_here (λ c. condensed_at (view_of a.self.now) a.a a.b c) l.c c.loop-c-test.true (sym c.condensed_at.ensures ∙ c.if-not-condensed_at.true))

pub loop-c-preserved : goal.loop-c-preserved
loop-c-preserved c = let a = c.args in let l = c.loop-c in
    (omega arith, l.invariant.1 ∙ below_past (λ c. condensed_at (view_of a.self.now) a.a a.b c) l.c c.loop-c-test.true (sym c.condensed_at.ensures ∙ c.if-not-condensed_at.false))

pub returns : goal.returns
unfolding all below
returns c = let a = c.args in let l = c.loop-c in let e : l.c ≡ 0 = omega arith in
    sym (l.invariant.1 ∙ ap (λ (j : ℕ). all (λ c. condensed_at (view_of a.self.now) a.a a.b c) (below j)) e)
