-- A graph in memory: where each list is held, and the learner graph that is held.
use Rattle.std.specs.Prelude.{List, ℕ, zero, suc, ◌+◌, ◌*◌, min, max, ◌≡◌, length, get_or}
use Rattle.std.proofs.Math.Seq.{slice}
use Rattle.graph.specs.declared.Graph.{Graph}
use Rattle.graph.specs.Limits.{max_learners, max_masks, lists}
use Rattle.graph.specs.LearnerGraph.{LearnerGraph}

-- 1 + 2 + .. + b: the pairs a ≤ c with c below b
unfoldable pub triangle : ℕ → ℕ
triangle zero = 0
triangle (suc b) = triangle b + suc b

-- The list of a pair: behind those of the learners, 0-0, 0-1, 1-1, 0-2, 1-2, 2-2 and so on, so that it does not depend on how many
-- learners there are.
unfoldable pub pair_list : ℕ → ℕ → ℕ
pair_list a b = max_learners + (triangle (max a b) + min a b)

-- List k has counts[k] masks, at most eight, from the place 8 * k on.
unfoldable pub list_of : List ℕ → List ℕ → ℕ → List ℕ
list_of counts masks k = slice (max_masks * k) (max_masks * k + min (get_or counts k 0) max_masks) masks

-- The learner graph that is held: list a is learner a's quorums.
abbrev pub held_graph : ℕ → ℕ → List ℕ → List ℕ → LearnerGraph
held_graph n l counts masks =
    record {
      acceptors = n;
      learners = l;
      quorums = λ a. list_of counts masks a;
      safes = λ a b. list_of counts masks (pair_list a b);
    }

abbrev pub view_of : Graph → LearnerGraph
view_of g = held_graph g.acceptors g.learners g.counts g.masks

-- counts and masks as long as the arrays are
abbrev pub GraphSized : List ℕ → List ℕ → Type 0
GraphSized counts masks = (length counts ≡ lists) × (length masks ≡ max_masks * lists)
