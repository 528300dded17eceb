use mathlib.Core.Path.{ap, ◌∙◌}
use Prim.Native.Nat.{ℕ}
use Rattle.base.specs.Tests.{any}
use Rattle.base.specs.Sets.{has, apart}
use Rattle.graph.specs.Memory.{list_of}
use Rattle.graph.specs.LearnerGraph.{safe_without}
use Rattle.graph.proofs.Graph.safe_without.Goals as goal

pub returns : goal.returns
unfolding safe_without
returns c = let a = c.args in let g = a.self.now in
    let e = c.some_apart.ensures ∙ ap (λ (k : ℕ). any (apart g.acceptors (has a.set)) (list_of g.counts g.masks k)) c.pair_list.ensures.0 in
    record { own = e; any_learners = λ l. e }
