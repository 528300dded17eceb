-- Row 17 of a round handed in: "a round handed in with a count or place outside its table, a reference not to an earlier place, or an
-- acceptor message with none"; and "own acceptor number not in the graph". What is not in use is not read: lists of learners that the
-- graph lacks, places that hold nothing, and the references of a proposal (their count and its previous place are read).
use Rattle.std.specs.Prelude.{Bool, not, ◌&&◌, ◌||◌, ℕ, ◌+◌, eqb, ltb, leb, get_or}
use Rattle.base.specs.Tests.{all, below}
use Rattle.graph.specs.declared.Graph.{Graph}
use Rattle.graph.specs.Limits.{max_acceptors, max_learners, max_masks, lists}
use Rattle.graph.specs.Memory.{triangle}
use Rattle.round.specs.Round.{Round}
use Rattle.round.specs.Limits.{max_held, no_place, own_allowed}
use Rattle.round.specs.Holdings.{is_proposal_at, references_at}

-- ---- the graph's counts: acceptors 1 to 16, learners 1 to 8, and for each list in use at most eight masks
abbrev pub in_use : ℕ → ℕ → Bool
in_use l k = ltb k l || (leb max_learners k && ltb k (max_learners + triangle l))

unfoldable pub list_fits : Graph → ℕ → Bool
list_fits g k = not (in_use g.learners k) || leb (get_or g.counts k 0) max_masks

unfoldable pub graph_fits : Graph → Bool
graph_fits g = leb 1 g.acceptors && leb g.acceptors max_acceptors && leb 1 g.learners && leb g.learners max_learners && all (list_fits g) (below lists)

-- ---- the own acceptor number is in the graph, or 256 for none
unfoldable pub own_fits : Round → Bool
own_fits r = own_allowed r.own r.graph.acceptors

-- ---- a place is none, or that of a held message
abbrev pub place_fits : Round → ℕ → Bool
place_fits r p = eqb p no_place || ltb p r.held

-- an acceptor message has references, and each is to an earlier place
unfoldable pub refers_back : Round → ℕ → Bool
refers_back r p = is_proposal_at r p || (leb 1 (get_or r.counts p 0) && all (λ j. ltb j p) (references_at r p))

unfoldable pub message_fits : Round → ℕ → Bool
message_fits r p = leb (get_or r.counts p 0) max_held && place_fits r (get_or r.previous p 0) && refers_back r p

-- ---- the whole round
unfoldable pub fits : Round → Bool
fits r = graph_fits r.graph && own_fits r && leb r.held max_held && place_fits r r.last && all (message_fits r) (below r.held)
