-- Repeated votes in single cases, computed: which votes definition 23 shuts out, as request 1 of document 02 has it, and a line of votes that reaches the
-- bounds of `FewVotes`.
use mathlib.Core.Path.{◌≡◌, refl}
use mathlib.Core.Bool.{not, ◌&&◌}
use mathlib.Core.Option.{none, some}
use mathlib.Core.List.{List, [], ◌∷◌}
use Prim.Native.Nat.{ℕ, zero, suc, ◌+◌, ◌^◌}
use lib.Dec.{T}
use Rattle.base.specs.Tests.{any, all, filter, below}
use Rattle.base.specs.Sets.{has, contains, apart}
use Rattle.base.specs.Ballots.{value_of}
use Rattle.graph.specs.LearnerGraph.{LearnerGraph, is_quorum, safe_without}
use Rattle.protocol.specs.Ids.{same_id, same_previous}
use Rattle.protocol.specs.Message.{listed, id_of, signer, previous, references, is_proposal, proposed, is1b, is2a, signers, tran, largest, ballot, value, forks, caught_in, caught}
use Rattle.protocol.specs.Learners.{con, buried_by, con2as_by, fresh_by, backers_by, lrns_by, height, lrns_in, lrns}
use Rattle.protocol.specs.WellFormed.{is_previous, linked, chained, alone, formed1b, same_learners, is_repeat_of, repeats, formed2a, well_formed}
use Rattle.protocol.specs.Table.{offers, says, Table, at, held_id, places, gather, node_by, tree_in, tree, messages, ids_at, content_of}
use Rattle.protocol.specs.Votes.{Line, count1b, count2a}
use Rattle.protocol.proofs.TableTests.{ordered_test, accepted_at, accepted_test, same_ids, same_content, free_test}

-- learner 0 trusts any two acceptors, learner 1 only all three
abbrev pair_or_all : ℕ → List ℕ
pair_or_all zero = 3 ∷ 5 ∷ 6 ∷ []
pair_or_all (suc a) = 7 ∷ []

abbrev G : LearnerGraph
G = record { acceptors = 3; learners = 2; quorums = pair_or_all; safes = λ a b. 7 ∷ [] }

-- Acceptor 0 votes for learner 0 when it has the 1bs of acceptors 0 and 1 (place 4). Of what it could send next, 5 only refers to that vote, as when it
-- returns; in 6 the third 1b has given it learner 1; 7 names no previous message, 8 an id that it does not refer to. 9 is acceptor 1's, after its 1b. 13
-- has a higher ballot. 14 has no learner.
abbrev t : Table
t = offers (0 ∷ []) 0 5
    ∷ says (1 ∷ []) 0 none (0 ∷ [])
    ∷ says (2 ∷ []) 1 none (0 ∷ [])
    ∷ says (3 ∷ []) 2 none (0 ∷ [])
    ∷ says (4 ∷ []) 0 (some (1 ∷ [])) (1 ∷ 2 ∷ [])
    ∷ says (5 ∷ []) 0 (some (4 ∷ [])) (4 ∷ [])
    ∷ says (6 ∷ []) 0 (some (4 ∷ [])) (3 ∷ 4 ∷ [])
    ∷ says (7 ∷ []) 0 none (4 ∷ [])
    ∷ says (8 ∷ []) 0 (some (4 ∷ [])) (1 ∷ 2 ∷ [])
    ∷ says (9 ∷ []) 1 (some (2 ∷ [])) (2 ∷ 4 ∷ [])
    ∷ offers (10 ∷ []) 0 (2 ^ 32 + 5)
    ∷ says (11 ∷ []) 1 (some (2 ∷ [])) (2 ∷ 10 ∷ [])
    ∷ says (12 ∷ []) 2 (some (3 ∷ [])) (3 ∷ 10 ∷ [])
    ∷ says (13 ∷ []) 0 (some (4 ∷ [])) (4 ∷ 11 ∷ 12 ∷ [])
    ∷ says (14 ∷ []) 0 (some (1 ∷ [])) (1 ∷ [])
    ∷ []

-- Places 5, 7, 8, 9 and 13 have the learners of place 4. Of these only the one that names it as its previous message, refers to it and has its ballot is
-- not well-formed.
pub only_repeats_are_shut_out : T (all (λ i. lrns G (tree t i) 0 && not (lrns G (tree t i) 1)) (4 ∷ 5 ∷ 7 ∷ 8 ∷ 9 ∷ 13 ∷ []) && lrns G (tree t 6) 0 && lrns G (tree t 6) 1)
    × T (all (λ i. formed2a G (tree t i)) (4 ∷ 6 ∷ 7 ∷ 8 ∷ 9 ∷ 13 ∷ [])) × T (not (formed2a G (tree t 5)) && not (formed2a G (tree t 14)))
unfolding any all filter below has contains apart is_quorum safe_without same_id same_previous listed id_of signer previous references is_proposal proposed is1b is2a signers tran largest ballot value_of value forks caught_in caught con buried_by con2as_by fresh_by backers_by lrns_by height lrns_in lrns same_learners is_repeat_of repeats formed2a at places gather node_by tree_in tree
only_repeats_are_shut_out = (tt, tt, tt)

-- The first seven places are a chained set of messages that ids tell apart, and 1, 4 and 6 a line of well-formed ones: one 1b, and a 2a for each learner.
-- So no smaller bound holds.
pub bounds_are_reached : T (accepted_test t (below 7) && free_test t (below 7) t (below 7)) × Line (messages t (1 ∷ 4 ∷ 6 ∷ [])) × T (all (well_formed G) (messages t (1 ∷ 4 ∷ 6 ∷ [])))
    × (count1b 5 (messages t (1 ∷ 4 ∷ 6 ∷ [])) ≡ 1) × (count2a 5 (messages t (1 ∷ 4 ∷ 6 ∷ [])) ≡ G.learners)
unfolding any all filter below has contains apart is_quorum safe_without same_id same_previous listed id_of signer previous references is_proposal proposed is1b is2a signers tran largest ballot value_of value forks caught_in caught con buried_by con2as_by fresh_by backers_by lrns_by height lrns_in lrns is_previous linked chained alone formed1b same_learners is_repeat_of repeats formed2a well_formed at held_id places gather node_by tree_in tree messages ids_at content_of ordered_test accepted_at accepted_test same_ids same_content free_test
bounds_are_reached = (tt, (refl, (refl, tt)), tt, refl, refl)
