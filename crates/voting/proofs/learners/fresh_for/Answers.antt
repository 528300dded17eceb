use mathlib.Core.Path.{sym, ap, ◌∙◌, subst}
use mathlib.Core.Bool.{not, ◌&&◌}
use Prim.Native.Nat.{ℕ}
use lib.Dec.{T, ltb}
use Rattle.base.specs.Tests.{any, below}
use Rattle.base.specs.Sets.{has}
use Rattle.graph.specs.LearnerGraph.{safe_without}
use Rattle.graph.specs.Memory.{view_of}
use Rattle.places.proofs.Membership.{has_zero, and_off, and_on}
use Rattle.places.proofs.Loops.{put_again, any_none, any_at}
use native.Mathlib.Omega.{arith}
use Rattle.voting.proofs.learners.fresh_for.Goals as goal

pub returns-then-against-eq0 : goal.returns-then-against-eq0
returns-then-against-eq0 c =
    let a = c.args in
    let g = view_of a.graph.now in
    λ q. c.first_learners.ensures q ∙ sym (any_at (λ x. not (any (λ b. safe_without g x b (has a.caught) && has a.against b) (below a.l))) a.k q ∙ and_on (ltb q a.k) _ (ap not (any_none (λ b. safe_without g q b (has a.caught) && has a.against b) a.l (λ b l t. subst T (and_off (safe_without g q b (has a.caught)) (has a.against b) (ap (λ (m : ℕ). has m b) c.if-against-eq0.true ∙ has_zero b)) t))))

pub loop-a-init : goal.loop-a-init
unfolding any below
loop-a-init c = (omega arith, λ q. has_zero q)

pub loop-a-preserved : goal.loop-a-preserved
loop-a-preserved c =
    let a = c.args in
    let g = view_of a.graph.now in
    let l = c.loop-a in
    (omega arith, λ q. put_again (λ x. not (any (λ b. safe_without g x b (has a.caught) && has a.against b) (below a.l))) (λ x. x) l.a q _ _ _ (c.with_learner-mask.ensures q) (ap not c.is_stale-on.ensures) (l.invariant.1 q))
