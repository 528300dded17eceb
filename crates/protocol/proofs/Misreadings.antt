-- The misreadings that document 01 shuts out, one by one, each with a case in which it would answer otherwise than the definitions do.
use mathlib.Core.Path.{◌≡◌, refl}
use mathlib.Core.Bool.{true, not, ◌&&◌}
use mathlib.Core.Option.{none, some}
use mathlib.Core.List.{[], ◌∷◌}
use Prim.Native.Nat.{◌+◌, ◌^◌}
use lib.Dec.{T, eqb}
use Rattle.base.specs.Tests.{any, all, filter, below}
use Rattle.base.specs.Sets.{has, contains, apart}
use Rattle.base.specs.Ballots.{value_of}
use Rattle.graph.specs.LearnerGraph.{LearnerGraph, is_quorum, safe_without}
use Rattle.protocol.specs.Ids.{same_id, same_previous}
use Rattle.protocol.specs.Message.{listed, id_of, signer, previous, references, is_proposal, proposed, is1b, is2a, signers, tran, largest, ballot, value, forks, caught_in, caught}
use Rattle.protocol.specs.Learners.{con, buried_by, con2as_by, fresh_by, backers_by, lrns_by, height, lrns_in, lrns, buried, fresh}
use Rattle.protocol.specs.WellFormed.{alone, formed1b}
use Rattle.protocol.specs.Report.{least, others, split, against, verdict}
use Rattle.protocol.specs.Table.{offers, says, Table, at, places, gather, node_by, tree_in, tree, messages, all_held}

abbrev G : LearnerGraph
G = record { acceptors = 3; learners = 2; quorums = λ a. 3 ∷ 5 ∷ 6 ∷ []; safes = λ a b. 7 ∷ [] }

-- Value 5 gets 2as of acceptors 0 and 1 in ballot 5 (places 3 and 4) and of acceptor 1 in a higher ballot (place 8). Then value 6 is
-- proposed, and acceptors 0 and 2 send 1bs for it (places 10 and 11). Acceptor 1 starts a second time (place 12). Proposer 0 made all proposals.
abbrev t : Table
t = offers (0 ∷ []) 0 5
    ∷ says (1 ∷ []) 0 none (0 ∷ [])
    ∷ says (2 ∷ []) 1 none (0 ∷ [])
    ∷ says (3 ∷ []) 0 (some (1 ∷ [])) (1 ∷ 2 ∷ [])
    ∷ says (4 ∷ []) 1 (some (2 ∷ [])) (1 ∷ 2 ∷ [])
    ∷ offers (5 ∷ []) 0 (2 ^ 32 + 5)
    ∷ says (6 ∷ []) 1 (some (4 ∷ [])) (4 ∷ 5 ∷ [])
    ∷ says (7 ∷ []) 2 none (5 ∷ [])
    ∷ says (8 ∷ []) 1 (some (6 ∷ [])) (6 ∷ 7 ∷ [])
    ∷ offers (9 ∷ []) 0 (2 ^ 33 + 6)
    ∷ says (10 ∷ []) 0 (some (3 ∷ [])) (3 ∷ 8 ∷ 9 ∷ [])
    ∷ says (11 ∷ []) 2 (some (7 ∷ [])) (4 ∷ 7 ∷ 9 ∷ [])
    ∷ says (12 ∷ []) 1 none (9 ∷ [])
    ∷ []

-- "Taking a quorum only when its set equals a listed mask": all three acceptors are a quorum, although the masks have two each.
pub quorum_may_be_larger : T (is_quorum G 0 (λ p. true))
unfolding any all below has contains is_quorum
quorum_may_be_larger = tt

-- "Reading Caught from all known messages and not from Tran(m)": acceptor 1 forks among all that is held, and is not caught in the 1b of
-- acceptor 0, which saw only one side. Nor is anybody by two proposals of one proposer.
pub caught_in_tran : T (caught_in (all_held t) 1 && not (caught (tree t 10) 1) && not (caught (tree t 10) 0))
unfolding any all filter below same_id same_previous listed id_of signer previous references is_proposal signers tran forks caught_in caught at places gather node_by tree_in tree messages
caught_in_tran = tt

-- "Burying by a higher 2a of the same value": the 2a at place 8 is higher than that at place 3, for both learners, and has the same value, so it
-- buries nothing and the 1b of acceptor 0 is fresh for no learner.
pub same_value_buries_not : T (lrns G (tree t 8) 0 && not (buried G 0 (tree t 3) (tree t 10)) && not (fresh G 0 (tree t 10)) && not (fresh G 1 (tree t 10)))
unfolding any all filter below has contains apart is_quorum safe_without same_id same_previous listed id_of signer previous references is_proposal proposed is1b is2a signers tran largest ballot value_of value forks caught_in caught con buried_by con2as_by fresh_by backers_by lrns_by height lrns_in lrns at places gather node_by tree_in tree
same_value_buries_not = tt

-- ".. or Con2as from other signers": acceptor 2 saw the 2a of acceptor 1, of another value, and has none of its own: its 1b is fresh.
pub others_bind_not : T (any (λ m. is2a m && lrns G m 0 && not (eqb (value m) (value (tree t 11)))) (tran (tree t 11)) && fresh G 0 (tree t 11) && fresh G 1 (tree t 11))
unfolding any all filter below has contains apart is_quorum safe_without same_id same_previous listed id_of signer previous references is_proposal proposed is1b is2a signers tran largest ballot value_of value forks caught_in caught con buried_by con2as_by fresh_by backers_by lrns_by height lrns_in lrns at places gather node_by tree_in tree
others_bind_not = tt

-- the ballot is the largest in Tran, not that of the first proposal there; and a well-formed 1b may have other ballots beneath it
pub ballot_is_largest : (ballot (tree t 10) ≡ 2 ^ 33 + 6) × T (formed1b (tree t 10))
unfolding any all same_id listed id_of references is_proposal proposed is1b tran largest ballot alone formed1b at places gather node_by tree_in tree
ballot_is_largest = (refl, tt)

-- a split gives the least ballot and the least of another value, which need not be the next
pub split_skips_equal_values : verdict ((2 ^ 33 + 6) ∷ (2 ^ 32 + 5) ∷ 5 ∷ []) ≡ split 5 (2 ^ 33 + 6)
unfolding filter least others against verdict value_of
split_skips_equal_values = refl
