use Rattle.graph.specs.LearnerGraph.{is_quorum}
use Rattle.graph.proofs.Graph.is_quorum.Goals as goal

pub returns : goal.returns
unfolding is_quorum
returns c = record { own = c.some_contained.ensures; any_learners = λ l. c.some_contained.ensures }
