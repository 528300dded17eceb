-- Why `SameCaughtOverLists` asks that no two different messages have one id: under an id rule by which one reply has the id of a proposal, the two texts
-- differ in a round that six deliveries lead to from an opening. Computed on the definitions.
use mathlib.Core.Path.{◌≡◌, refl, subst}
use mathlib.Core.Bool.{Bool, true, false, not}
use mathlib.Core.List.{List, [], ◌∷◌, ◌++◌}
use Prim.Native.Nat.{ℕ, zero, suc, ◌+◌, ◌<◌}
use native.Mathlib.Omega.{arith}
use lib.Dec.{T, eqb, ltb, ltb→lt, T_not}
use lib.ListN.{length, get_or, replicate, length-replicate}
use Rattle.base.specs.Tests.{any, all, filter, below, pick}
use Rattle.base.specs.Sets.{has, contains, apart}
use Rattle.base.specs.Bytes.{be, bytes}
use Rattle.base.specs.Ballots.{value_of}
use Rattle.graph.specs.LearnerGraph.{is_quorum, is_safe, safe_without, common, valid_at, valid, condensed_at, condensed}
use Rattle.graphfile.specs.File.{last, read_masks, read_list, read_lists, read_rows, read_graph, contents, graph_said}
use Rattle.graph.specs.Memory.{triangle, pair_list, list_of}
use Rattle.graphfile.specs.Arrays.{hold_all, hold_rows, held_of}
use Rattle.message.specs.Layout.{ballot_at, proposal_len, previous_at, id_len, acceptor_len}
use Rattle.message.specs.Writer.{acceptor_bytes}
use Rattle.message.specs.Order.{before, ascending}
use Rattle.protocol.specs.Ids.{Id, same_id, same_previous}
use Rattle.protocol.specs.Message.{listed, id_of, signer, previous, references, is_proposal, proposed, is1b, is2a, signers, tran, trans, largest, ballot, value, forks, caught_in, caught}
use Rattle.protocol.specs.Learners.{con, buried_by, con2as_by, fresh_by, backers_by, lrns_by, height, heights, lrns_in, lrns}
use Rattle.protocol.specs.WellFormed.{is_previous, linked, chained, alone, formed1b, same_learners, is_repeat_of, repeats, formed2a, well_formed}
use Rattle.protocol.specs.Table.{at, tabulate, gather, node_by, tree_in, tree}
use Rattle.protocol.specs.November.{prev_tran, in_prev_tran, unconnected, caught_november}
use Rattle.round.specs.Round.{Round}
use Rattle.round.specs.Holdings.{lowest, place_of, table_of}
use Rattle.round.specs.Handed.{list_fits, graph_fits, own_fits, refers_back, message_fits, fits}
use Rattle.round.specs.Opening.{opened}
use Rattle.round.specs.Rows.{ids_from, lacks, unchained, proposal_rows, acceptor_rows, first_of}
use Rattle.round.specs.Reply as reply
use Rattle.round.specs.Delivery.{delivery, processed, hold}
use Rattle.round.specs.Lists.{Call, deliver, last_round}
use Rattle.round.specs.Premises.{IdRule, Starts}
use Rattle.round.specs.Neighbours.{SameCaughtIn}
use Rattle.round.specs.Answers.{opening_number}
use Rattle.round_cases.specs.Cases.{four, thirds, G1, proposal_for, buffer, start}

-- ---- the id rule: 32 times one number. It tells the messages below apart but for two: the second reply has the number of the first proposal.
-- the four proposals have 1 to 4, their round numbers
unfoldable of_proposal : ℕ → ℕ
of_proposal round = pick (eqb round 1) 1 (pick (eqb round 2) 2 (pick (eqb round 3) 3 4))

-- the first reply has 5 and the vote 6; the second reply, which names 5, has 1, the third 7 and the fourth 8
unfoldable of_vote : ℕ → ℕ → ℕ
of_vote len named = pick (eqb len (acceptor_len false 1)) 5 (pick (eqb len (acceptor_len false 2)) 6 (pick (eqb len (acceptor_len true 2)) (pick (eqb named 5) 1 7) 8))

-- a round number below 256 is the fourth byte of the ballot
unfoldable number : List ℕ → ℕ
number b = pick (eqb (length b) proposal_len) (of_proposal (get_or b (ballot_at + 3) 0)) (of_vote (length b) (get_or b previous_at 0))

unfoldable H : List ℕ → Id
H b = replicate id_len (number b)

-- ---- what is delivered to acceptor 0 under G1: the first proposal, its reply returning, two more proposals, a vote of acceptor 1 on the first reply and
-- the third proposal, and a fourth proposal
unfoldable z₁ : List ℕ
z₁ = acceptor_bytes 1 12 0 [] 1 (H (proposal_for 1 1))

unfoldable vote₁ : List ℕ
vote₁ = acceptor_bytes 1 12 1 [] 2 (H (proposal_for 1 3) ++ H z₁)

unfoldable calls : List Call
calls =
    deliver (proposal_for 1 1) buffer
    ∷ deliver z₁ buffer
    ∷ deliver (proposal_for 1 2) buffer
    ∷ deliver (proposal_for 1 3) buffer
    ∷ deliver vote₁ buffer
    ∷ deliver (proposal_for 1 4) buffer
    ∷ []

-- ---- the round that they lead to: place 3 has the second reply and the id of place 0, the first proposal. So the third reply, at place 5, names that id
-- and refers to the proposal, and the fourth, at place 8, has the first and the third beneath it: neither is on the other's chain, and they name none
-- and that id.
unfoldable end : Round
end = last_round H (start G1 0) calls

computed : T (ltb 8 end.held) × T (caught_november (tree (table_of end) 8) 0) × T (not (caught (tree (table_of end) 8) 0))
unfolding of_proposal of_vote number H z₁ vote₁ calls end last_round four thirds G1 proposal_for buffer start any all filter below has contains apart be bytes is_quorum is_safe safe_without common valid_at valid condensed_at condensed last read_masks read_list read_lists read_rows read_graph contents graph_said triangle pair_list list_of hold_all hold_rows held_of before ascending same_id same_previous listed id_of signer previous references is_proposal proposed is1b is2a signers tran trans largest ballot value_of value forks caught_in caught prev_tran in_prev_tran unconnected caught_november con buried_by con2as_by fresh_by backers_by lrns_by height heights lrns_in lrns is_previous linked chained alone formed1b same_learners is_repeat_of repeats formed2a well_formed at tabulate gather node_by tree_in tree lowest place_of list_fits graph_fits own_fits refers_back message_fits fits ids_from lacks unchained proposal_rows acceptor_rows first_of delivery processed hold opened reply.chosen reply.insert reply.chosen_of reply.joined reply.reply_bytes reply.is_sent
computed = (tt, tt, tt)

-- ---- the rule gives 32 bytes
either : (b : Bool) (x y : ℕ) → x < 256 → y < 256 → pick b x y < 256
either true x y h k = h
either false x y h k = k

proposal_below : (round : ℕ) → of_proposal round < 256
unfolding of_proposal
proposal_below n =
    either (eqb n 1) 1 (pick (eqb n 2) 2 (pick (eqb n 3) 3 4)) (omega arith)
    (either (eqb n 2) 2 (pick (eqb n 3) 3 4) (omega arith) (either (eqb n 3) 3 4 (omega arith) (omega arith)))

vote_below : (len named : ℕ) → of_vote len named < 256
unfolding of_vote
vote_below len named =
    let two : pick (eqb named 5) 1 7 < 256 = either (eqb named 5) 1 7 (omega arith) (omega arith) in
    let long : pick (eqb len (acceptor_len true 2)) (pick (eqb named 5) 1 7) 8 < 256 = either (eqb len (acceptor_len true 2)) (pick (eqb named 5) 1 7) 8 two (omega arith) in
    either (eqb len (acceptor_len false 1)) 5 (pick (eqb len (acceptor_len false 2)) 6 (pick (eqb len (acceptor_len true 2)) (pick (eqb named 5) 1 7) 8)) (omega arith)
    (either (eqb len (acceptor_len false 2)) 6 (pick (eqb len (acceptor_len true 2)) (pick (eqb named 5) 1 7) 8) (omega arith) long)

number_below : (b : List ℕ) → number b < 256
unfolding number
number_below b =
    either (eqb (length b) proposal_len) (of_proposal (get_or b (ballot_at + 3) 0)) (of_vote (length b) (get_or b previous_at 0))
    (proposal_below (get_or b (ballot_at + 3) 0)) (vote_below (length b) (get_or b previous_at 0))

repeated_below : (n i x : ℕ) → x < 256 → get_or (replicate n x) i 0 < 256
repeated_below zero i x h = omega arith
repeated_below (suc n) zero x h = h
repeated_below (suc n) (suc i) x h = repeated_below n i x h

rule : IdRule H
unfolding H
rule = record { size = λ b. length-replicate id_len (number b); bytes = λ b i. repeated_below id_len i (number b) (number_below b) }

-- ---- so the promise without its premise is false
abbrev WithoutPremise : Type 0
WithoutPremise = (H : List ℕ → Id) → IdRule H → (file : List ℕ) (house bay own : ℕ) (r : Round) → Starts file house bay own r
    → (l : List Call) → SameCaughtIn (last_round H r l)

opens : opening_number (opened G1 1 12 0).answer ≡ 0
unfolding four thirds G1 any all below has contains apart be is_quorum is_safe safe_without common valid_at valid condensed_at condensed last read_masks read_list read_lists read_rows read_graph contents graph_said triangle pair_list list_of hold_all hold_rows held_of opened
opens = refl

pub premise_needed : WithoutPremise → ⊥
unfolding start end
premise_needed f =
    let starts : Starts G1 1 12 0 (start G1 0) = record { opens = opens; gives = refl; house_fits = omega arith; bay_fits = omega arith } in
    let (inside, november, december) = computed in
    T_not (caught (tree (table_of end) 8) 0) december (subst T (f H rule G1 1 12 0 (start G1 0) starts calls 8 0 (ltb→lt 8 end.held inside)) november)
