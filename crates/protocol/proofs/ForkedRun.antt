-- Why agreement asks for a safe set of honest acceptors. Acceptor 2 starts twice: with a 1b for ballot 5 and with one for ballot 6. With
-- acceptor 0 it is a quorum of learner 0, with acceptor 1 one of learner 1, and either is a quorum of learner 2. Learners 0 and 1 decide
-- differently, and the report for learner 2 is a split. Every other premise of agreement is met.
use mathlib.Core.Path.{◌≡◌, refl}
use mathlib.Core.Bool.{not, ◌&&◌}
use mathlib.Core.Option.{none, some}
use mathlib.Core.List.{List, [], ◌∷◌, ◌++◌}
use Prim.Native.Nat.{ℕ, zero, suc}
use lib.Dec.{T}
use Rattle.base.specs.Tests.{◌∈◌, any, all, filter, below}
use Rattle.base.specs.Sets.{has, contains, apart}
use Rattle.base.proofs.Tests.{and_l, and_r}
use Rattle.base.specs.Ballots.{value_of}
use Rattle.graph.specs.LearnerGraph.{LearnerGraph, is_quorum, is_safe, safe_without, common, valid_at, valid, condensed_at, condensed}
use Rattle.protocol.specs.Ids.{same_id, same_previous}
use Rattle.protocol.specs.Message.{Message, listed, id_of, signer, previous, references, is_proposal, proposed, is1b, is2a, signers, tran, largest, ballot, value, forks, caught_in, caught}
use Rattle.protocol.specs.Learners.{con, buried_by, con2as_by, fresh_by, backers_by, lrns_by, height, lrns_in, lrns}
use Rattle.protocol.specs.WellFormed.{is_previous, linked, chained, alone, formed1b, is_repeat_of, repeats, formed2a}
use Rattle.protocol.specs.Report.{votes, decides, deciding, least, others, decided, split, against, verdict, report}
use Rattle.protocol.specs.Table.{offers, says, Table, at, held_id, places, gather, node_by, tree_in, tree, messages, ids_at, content_of}
use Rattle.protocol.specs.Theorems.{SoundGraph, Lawful}
use Rattle.protocol.proofs.Tables.{lawful}
use Rattle.protocol.proofs.TableTests.{ordered_test, accepted_at, accepted_test, same_ids, same_content, free_test, accepted_of_test, free_of_test}

abbrev quorums_of : ℕ → List ℕ
quorums_of zero = 5 ∷ []
quorums_of (suc zero) = 6 ∷ []
quorums_of (suc (suc a)) = 5 ∷ 6 ∷ []

-- learners 0 and 1 have a safe set each with themselves, and none with anybody else: acceptor 2 is outside every safe set
abbrev apart_safes : ℕ → ℕ → List ℕ
apart_safes zero zero = 1 ∷ []
apart_safes zero (suc b) = []
apart_safes (suc zero) zero = []
apart_safes (suc zero) (suc zero) = 2 ∷ []
apart_safes (suc zero) (suc (suc b)) = []
apart_safes (suc (suc a)) b = []

abbrev G : LearnerGraph
G = record { acceptors = 3; learners = 3; quorums = quorums_of; safes = apart_safes }

-- the same quorums, with acceptor 2 alone the safe set of every pair
abbrev H : LearnerGraph
H = record { acceptors = 3; learners = 3; quorums = quorums_of; safes = λ a b. 4 ∷ [] }

abbrev t : Table
t = offers (0 ∷ []) 9 5
    ∷ offers (1 ∷ []) 9 6
    ∷ says (2 ∷ []) 0 none (0 ∷ [])
    ∷ says (3 ∷ []) 2 none (0 ∷ [])
    ∷ says (4 ∷ []) 1 none (1 ∷ [])
    ∷ says (5 ∷ []) 2 none (1 ∷ [])
    ∷ says (6 ∷ []) 0 (some (2 ∷ [])) (2 ∷ 3 ∷ [])
    ∷ says (7 ∷ []) 2 (some (3 ∷ [])) (2 ∷ 3 ∷ [])
    ∷ says (8 ∷ []) 1 (some (4 ∷ [])) (4 ∷ 5 ∷ [])
    ∷ says (9 ∷ []) 2 (some (5 ∷ [])) (4 ∷ 5 ∷ [])
    ∷ []

abbrev ks : List ℕ
ks = below 10

abbrev M : List Message
M = messages t ks ++ messages t ks

-- Both graphs are valid and condensed; the table was checked on entry, its 2as too, and no ids collide; acceptors 0 and 1 are honest and 2 is not.
-- In G the honest acceptors are no safe set of 0 and 1; in H acceptor 2 is one, and forked.
pub computed : T (valid G && condensed G && valid H && condensed H)
    × T (accepted_test t ks) × T (free_test t ks t ks) × T (all (λ i. formed2a G (tree t i) && formed2a H (tree t i)) ks)
    × T (not (caught_in M 0) && not (caught_in M 1) && caught_in M 2)
    × T (not (is_safe G 0 1 (λ p. not (caught_in M p))) && not (is_safe H 0 1 (λ p. not (caught_in M p))))
    × (report G (messages t ks) 0 ≡ decided 5) × (report G (messages t ks) 1 ≡ decided 6) × (report G (messages t ks) 2 ≡ split 5 6)
    × (report H (messages t ks) 0 ≡ decided 5) × (report H (messages t ks) 1 ≡ decided 6) × (report H (messages t ks) 2 ≡ split 5 6)
unfolding any all filter below has contains apart is_quorum is_safe safe_without common valid_at valid condensed_at condensed same_id same_previous listed id_of signer previous references is_proposal proposed is1b is2a signers tran largest ballot value_of value forks caught_in caught con buried_by con2as_by fresh_by backers_by lrns_by height lrns_in lrns is_previous linked chained alone formed1b is_repeat_of repeats formed2a votes decides deciding least others against verdict report at held_id places gather node_by tree_in tree messages ids_at content_of ordered_test accepted_at accepted_test same_ids same_content free_test
computed = (tt, tt, tt, tt, tt, tt, refl, refl, refl, refl, refl, refl)

-- the premises that are met, as the theorem states them
turned : (a b s : ℕ) → s ∈ apart_safes a b → s ∈ apart_safes b a
turned zero zero s m = m
turned zero (suc b) s m = elim m [ ]
turned (suc zero) zero s m = elim m [ ]
turned (suc zero) (suc zero) s m = m
turned (suc zero) (suc (suc b)) s m = elim m [ ]
turned (suc (suc a)) b s m = elim m [ ]

pub sound : SoundGraph G
sound = let h = computed.0 in record { is_valid = search (and_l, and_r); is_condensed = search (and_l, and_r); undirected = turned }

pub is_lawful : Lawful M
is_lawful = let acc = accepted_of_test t ks computed.1 in let free = free_of_test t ks t ks computed.2 in lawful t t ks ks acc acc free free free
