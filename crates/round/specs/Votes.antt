-- CONTROLLERS THAT TALK TO THEMSELVES (request 1 of document 02): how often our acceptor votes, as a proposition. proofs/Demands proves it under the same
-- name.
use Rattle.std.specs.Prelude.{List, ◌++◌, map, ℕ}
use Rattle.protocol.specs.Ids.{Id}
use Rattle.protocol.specs.Votes.{Few}
use Rattle.round.specs.Round.{Round}
use Rattle.round.specs.Holdings.{graph_of}
use Rattle.round.specs.Delivery.{message_read}
use Rattle.round.specs.Lists.{Call, run, last_round, accepted, written}
use Rattle.round.specs.Premises.{IdRule, Starts}
use Rattle.round.specs.Demands.{NoCollision}

-- Over every list of calls our acceptor, started once, writes for each ballot at most one 1b and at most as many 2as as the graph has learners. What the
-- written bytes say is read over the round that the list leaves.
abbrev pub FewReplies : Type 0
FewReplies = (H : List ℕ → Id) → IdRule H → (file : List ℕ) (house bay own : ℕ) (r : Round) → Starts file house bay own r
    → (l : List Call) → NoCollision H (accepted (run H r l) ++ written (run H r l))
    → Few (graph_of r) (map (message_read H (last_round H r l)) (written (run H r l)))
