use mathlib.Core.Path.{refl}
use mathlib.Core.Bool.{◌&&◌}
use Rattle.base.specs.Tests.{any, below}
use Rattle.base.specs.Sets.{has}
use Rattle.graph.specs.LearnerGraph.{safe_without}
use Rattle.graph.specs.Memory.{view_of}
use Rattle.places.proofs.Loops.{any_again}
use native.Mathlib.Omega.{arith}
use Rattle.voting.proofs.learners.is_stale.Goals as goal

pub loop-b-init : goal.loop-b-init
unfolding any below
loop-b-init c = (omega arith, refl)

pub loop-b-preserved : goal.loop-b-preserved
loop-b-preserved c =
    let a = c.args in
    let l = c.loop-b in
    (omega arith, any_again (λ b. safe_without (view_of a.graph.now) a.a b (has a.caught) && has a.against b) l.b c.is_against-found.result l.found c.is_against-found.ensures l.invariant.1)
