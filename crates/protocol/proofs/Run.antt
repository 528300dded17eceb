-- The definitions compute, and every premise of agreement can be met: three acceptors, two learners, any two acceptors a quorum, and all
-- three the safe set of each pair. Two tables hold the messages of one run in different orders.
use mathlib.Core.Path.{◌≡◌, refl}
use mathlib.Core.Bool.{true, not, ◌&&◌}
use mathlib.Core.Option.{none, some}
use mathlib.Core.List.{List, [], ◌∷◌, ◌++◌}
use Prim.Native.Nat.{ℕ}
use lib.Dec.{T, lit<}
use Rattle.base.specs.Tests.{any, all, filter, below}
use Rattle.base.specs.Sets.{has, contains, apart}
use Rattle.base.proofs.Tests.{and_l, and_r, all_out, below_in}
use Rattle.base.specs.Ballots.{value_of}
use Rattle.graph.specs.LearnerGraph.{LearnerGraph, is_quorum, is_safe, safe_without, common, valid_at, valid, condensed_at, condensed}
use Rattle.protocol.specs.Ids.{same_id, same_previous}
use Rattle.protocol.specs.Message.{Message, listed, id_of, signer, previous, references, is_proposal, proposed, is1b, is2a, signers, tran, largest, ballot, value, forks, caught_in, caught}
use Rattle.protocol.specs.Learners.{con, buried_by, con2as_by, fresh_by, backers_by, lrns_by, height, lrns_in, lrns, fresh}
use Rattle.protocol.specs.WellFormed.{is_previous, linked, chained, alone, formed1b, is_repeat_of, repeats, formed2a}
use Rattle.protocol.specs.Report.{votes, decides, deciding, least, others, undecided, decided, against, verdict, report}
use Rattle.protocol.specs.Table.{offers, says, Table, at, held_id, places, gather, node_by, tree_in, tree, messages, ids_at, content_of}
use Rattle.protocol.specs.Theorems.{SoundGraph, Entangled, Agree}
use Rattle.protocol.proofs.Tables.{tables_agree}
use Rattle.protocol.proofs.TableTests.{ordered_test, accepted_at, accepted_test, same_ids, same_content, free_test, accepted_of_test, free_of_test}

abbrev G : LearnerGraph
G = record { acceptors = 3; learners = 2; quorums = λ a. 3 ∷ 5 ∷ 6 ∷ []; safes = λ a b. 7 ∷ [] }

-- Ballot 5: 1bs of acceptors 0 and 1, and a 2a of each. Then a proposal of ballot 6 and a 1b for it of acceptor 0, which the first table's
-- owner awaits: place 6 is held and not known.
abbrev t : Table
t = offers (0 ∷ []) 9 5
    ∷ says (1 ∷ []) 0 none (0 ∷ [])
    ∷ says (2 ∷ []) 1 none (0 ∷ [])
    ∷ says (3 ∷ []) 0 (some (1 ∷ [])) (1 ∷ 2 ∷ [])
    ∷ says (4 ∷ []) 1 (some (2 ∷ [])) (1 ∷ 2 ∷ [])
    ∷ offers (5 ∷ []) 9 6
    ∷ says (6 ∷ []) 0 (some (3 ∷ [])) (3 ∷ 4 ∷ 5 ∷ [])
    ∷ []

-- The same messages in another order, the awaited one known, and a 1b of acceptor 2 for ballot 6.
abbrev u : Table
u = offers (5 ∷ []) 9 6
    ∷ offers (0 ∷ []) 9 5
    ∷ says (2 ∷ []) 1 none (1 ∷ [])
    ∷ says (1 ∷ []) 0 none (1 ∷ [])
    ∷ says (7 ∷ []) 2 none (0 ∷ [])
    ∷ says (4 ∷ []) 1 (some (2 ∷ [])) (3 ∷ 2 ∷ [])
    ∷ says (3 ∷ []) 0 (some (1 ∷ [])) (3 ∷ 2 ∷ [])
    ∷ says (6 ∷ []) 0 (some (3 ∷ [])) (6 ∷ 5 ∷ 0 ∷ [])
    ∷ []

-- the known places of each
abbrev ks : List ℕ
ks = below 6

abbrev js : List ℕ
js = below 8

abbrev M : List Message
M = messages t ks ++ messages u js

-- Each premise of agreement is met, and: ballot 5 decides for learner 0 in t and for learner 1 in u, while three messages fewer decide
-- nothing; the 1b of acceptor 0 for ballot 6 is fresh for neither, since its own 2a has another value and is not buried; that of acceptor 2 is.
pub computed : T (valid G && condensed G && is_safe G 0 1 (λ p. true) && all (λ p. not (caught_in M p)) (below 3))
    × T (accepted_test t ks) × T (accepted_test u js) × T (free_test t ks t ks) × T (free_test t ks u js) × T (free_test u js u js)
    × (report G (messages t ks) 0 ≡ decided 5) × (report G (messages u js) 1 ≡ decided 5) × (report G (messages t (below 4)) 0 ≡ undecided)
    × T (lrns G (tree t 3) 0 && lrns G (tree t 3) 1 && not (fresh G 0 (tree u 7)) && not (fresh G 1 (tree u 7)) && fresh G 0 (tree u 4) && formed2a G (tree t 4))
unfolding any all filter below has contains apart is_quorum is_safe safe_without common valid_at valid condensed_at condensed same_id same_previous listed id_of signer previous references is_proposal proposed is1b is2a signers tran largest ballot value_of value forks caught_in caught con buried_by con2as_by fresh_by backers_by lrns_by height lrns_in lrns is_previous linked chained alone formed1b is_repeat_of repeats formed2a votes decides deciding least others against verdict report at held_id places gather node_by tree_in tree messages ids_at content_of ordered_test accepted_at accepted_test same_ids same_content free_test
computed = (tt, tt, tt, tt, tt, tt, refl, refl, refl, tt)

sound : SoundGraph G
sound = let h = computed.0 in record { is_valid = search (and_l, and_r); is_condensed = search (and_l, and_r); undirected = λ a b s m. m }

entangled : Entangled G M 0 1
entangled = let h = computed.0 in record {
  safe = λ p. true;
  is_safe_set = search (and_l, and_r);
  honest = λ p l k. all_out (λ p. not (caught_in M p)) (below_in 3 l) (search (and_l, and_r));
}

-- so the theorem speaks of this run
pub agrees : Agree (report G (messages t ks) 0) (report G (messages u js) 1)
agrees =
    tables_agree G sound t u ks js (accepted_of_test t ks computed.1) (accepted_of_test u js computed.2)
    (free_of_test t ks t ks computed.3) (free_of_test t ks u js computed.4) (free_of_test u js u js computed.5)
    0 1 (lit< tt) (lit< tt) entangled ks js (λ i m. m) (λ j m. m)
