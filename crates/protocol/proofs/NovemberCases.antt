-- Both texts in single cases, computed: one that meets every premise on a set of messages; for each of these premises one that meets the others and in
-- which the texts differ; and one for "taken over acceptor messages". Acceptor 0 is the one to be caught, and the last message, of acceptor 1, the one
-- in which it is.
use mathlib.Core.Path.{◌≡◌, refl, sym}
use mathlib.Core.Bool.{true, false, not, ◌&&◌}
use mathlib.Core.Option.{none, some}
use mathlib.Core.List.{[], ◌∷◌}
use native.Mathlib.Omega.{arith}
use lib.Dec.{T, eqb}
use Rattle.base.specs.Tests.{any, all, filter, below}
use Rattle.base.proofs.Tests.{below_in}
use Rattle.protocol.specs.Ids.{same_id, same_previous}
use Rattle.protocol.specs.Message.{listed, id_of, signer, previous, references, is_proposal, proposed, is1b, signers, tran, largest, ballot, forks, caught_in, caught}
use Rattle.protocol.specs.WellFormed.{is_previous, linked, chained, alone, formed1b}
use Rattle.protocol.specs.Table.{offers, says, Table, at, held_id, places, gather, node_by, tree_in, tree, ids_at, content_of}
use Rattle.protocol.specs.November.{prev_tran, in_prev_tran, unconnected, caught_november}
use Rattle.protocol.proofs.TableTests.{ordered_test, accepted_at, accepted_test, same_ids, same_content, free_test, accepted_of_test, free_of_test}
use Rattle.protocol.proofs.November.{same_caught_at}

-- ---- every premise is met: the chains 1, 2, 3 and 1, 4 part at 1, although 4 also refers to 3. The November text catches acceptor 0 by 3 and 4, say,
-- neither of which is on the other's chain, and the report by 2 and 4, which name the same previous message. The report's answer is taken from the
-- theorem.
abbrev parted : Table
parted = offers (0 ∷ []) 9 5
    ∷ says (1 ∷ []) 0 none (0 ∷ [])
    ∷ says (2 ∷ []) 0 (some (1 ∷ [])) (1 ∷ [])
    ∷ says (3 ∷ []) 0 (some (2 ∷ [])) (2 ∷ [])
    ∷ says (4 ∷ []) 0 (some (1 ∷ [])) (1 ∷ 3 ∷ [])
    ∷ says (5 ∷ []) 1 none (4 ∷ [])
    ∷ []

parted_accepted : T (accepted_test parted (below 6))
unfolding any all below same_id listed id_of signer previous references is_proposal proposed is1b tran largest ballot is_previous linked chained alone formed1b at places gather node_by tree_in tree ordered_test accepted_at accepted_test
parted_accepted = tt

parted_free : T (free_test parted (below 6) parted (below 6))
unfolding all below same_id same_previous at held_id ids_at content_of same_ids same_content free_test
parted_free = tt

pub both_catch : (caught_november (tree parted 5) 0 ≡ true) × (caught (tree parted 5) 0 ≡ true)
unfolding any filter same_id same_previous id_of signer is_proposal signers tran at gather node_by tree_in tree prev_tran in_prev_tran unconnected caught_november
both_catch = (
  refl,
  sym (same_caught_at parted (below 6) (accepted_of_test parted (below 6) parted_accepted).chains (free_of_test parted (below 6) parted (below 6) parted_free) 5 (below_in 6 (omega arith)) 0),
)

-- ---- not chained: the second message of acceptor 0, place 3, names one of acceptor 1 as its previous. So neither message of acceptor 0 is on the
-- other's chain, and their previous ids differ. All else holds of the five places. Of the others alone everything holds but that with a message its Tran
-- is in the set, so that is needed, too.
abbrev unchained : Table
unchained = offers (0 ∷ []) 9 5
    ∷ says (1 ∷ []) 0 none (0 ∷ [])
    ∷ says (2 ∷ []) 1 none (0 ∷ [])
    ∷ says (3 ∷ []) 0 (some (2 ∷ [])) (2 ∷ [])
    ∷ says (4 ∷ []) 1 (some (2 ∷ [])) (1 ∷ 2 ∷ 3 ∷ [])
    ∷ []

pub unchained_differs : T (ordered_test unchained && free_test unchained (below 5) unchained (below 5) && all (accepted_at unchained (below 5)) (0 ∷ 1 ∷ 2 ∷ 4 ∷ []) && not (chained (tree unchained 3)))
    × (caught_november (tree unchained 4) 0 ≡ true) × (caught (tree unchained 4) 0 ≡ false)
unfolding any all filter below same_id same_previous listed id_of signer previous references is_proposal proposed is1b signers tran largest ballot forks caught_in caught is_previous linked chained alone formed1b at held_id places gather node_by tree_in tree ids_at content_of prev_tran in_prev_tran unconnected caught_november ordered_test accepted_at same_ids same_content free_test
unchained_differs = (tt, refl, refl)

-- ---- colliding ids: places 3 and 4 name the same previous message, and the id of place 3 is also that of place 1, which is on the chain of both. The
-- six places have all that is asked of accepted ones.
abbrev colliding : Table
colliding = offers (0 ∷ []) 9 5
    ∷ says (2 ∷ []) 0 none (0 ∷ [])
    ∷ says (1 ∷ []) 0 (some (2 ∷ [])) (1 ∷ [])
    ∷ says (2 ∷ []) 0 (some (1 ∷ [])) (2 ∷ [])
    ∷ says (3 ∷ []) 0 (some (1 ∷ [])) (2 ∷ [])
    ∷ says (4 ∷ []) 1 none (3 ∷ 4 ∷ [])
    ∷ []

pub colliding_differs : T (accepted_test colliding (below 6)) × (caught_november (tree colliding 5) 0 ≡ false) × (caught (tree colliding 5) 0 ≡ true)
unfolding any all filter below same_id same_previous listed id_of signer previous references is_proposal proposed is1b signers tran largest ballot forks caught_in caught is_previous linked chained alone formed1b at places gather node_by tree_in tree prev_tran in_prev_tran unconnected caught_november ordered_test accepted_at accepted_test
colliding_differs = (tt, refl, refl)

-- ---- "taken over acceptor messages": over all messages, the November text would catch acceptor 0 by two proposals of proposer 0
abbrev proposals : Table
proposals = offers (0 ∷ []) 0 5 ∷ offers (1 ∷ []) 0 6 ∷ says (2 ∷ []) 1 none (0 ∷ 1 ∷ []) ∷ []

pub proposals_would_catch : T (any (λ m. any (λ n. eqb (signer m) 0 && eqb (signer n) 0 && not (in_prev_tran m n) && not (in_prev_tran n m)) (tran (tree proposals 2))) (tran (tree proposals 2)))
    × (caught_november (tree proposals 2) 0 ≡ false) × (caught (tree proposals 2) 0 ≡ false)
unfolding any filter same_id same_previous id_of signer previous is_proposal signers tran forks caught_in caught at gather node_by tree_in tree prev_tran in_prev_tran unconnected caught_november
proposals_would_catch = (tt, refl, refl)
