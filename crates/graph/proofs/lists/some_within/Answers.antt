use mathlib.Core.Path.{refl, sym, ◌∙◌}
use native.Mathlib.Omega.{arith}
use lib.ListN.{length}
use Rattle.base.proofs.Tests.{any_end, any_here, any_past}
use Rattle.graph.specs.Inside.Asking.{within}
use Rattle.graph.proofs.lists.some_within.Goals as goal

pub returns-then-within : goal.returns-then-within
returns-then-within c = let a = c.args in let l = c.loop-mask in
    sym (l.invariant ∙ any_here (within a.set) a.list.now (length a.list.now) l.mask-index c.loop-mask-test.true (omega arith) (sym c.within.ensures ∙ c.if-within.true))

pub loop-mask-preserved : goal.loop-mask-preserved
loop-mask-preserved c = let a = c.args in let l = c.loop-mask in
    l.invariant ∙ any_past (within a.set) a.list.now (length a.list.now) l.mask-index c.loop-mask-test.true (omega arith) (sym c.within.ensures ∙ c.if-within.false)

pub returns : goal.returns
returns c = let a = c.args in let l = c.loop-mask in
    sym (l.invariant ∙ any_end (within a.set) a.list.now (length a.list.now) l.mask-index c.loop-mask-test.false)
