-- The starred cases of document 01, and the sample round of request 1 of document 02, as one table: what is delivered to which round, and what is
-- expected of it.
use Rattle.std.specs.Prelude.{Bool, List, [], ◌∷◌, ◌++◌, ℕ, ◌+◌, T, eqb, length, replicate}
use Rattle.base.specs.Tests.{pick, all}
use Rattle.base.specs.Ballots.{value_of}
use Rattle.digest.specs.Sha256.{sha256}
use Rattle.message.specs.Writer.{acceptor_bytes}
use Rattle.message.specs.Order.{before}
use Rattle.protocol.specs.Ids.{Id}
use Rattle.protocol.specs.Message.{is1b, is2a}
use Rattle.protocol.specs.Learners.{lrns}
use Rattle.protocol.specs.Table.{tree}
use Rattle.round.specs.Round.{Round}
use Rattle.round.specs.Limits.{reply_len}
use Rattle.round.specs.Holdings.{graph_of, table_of, is_recent}
use Rattle.round.specs.Opening.{opened}
use Rattle.round.specs.Delivery.{Effect, delivery}
use Rattle.round.specs.Answers.{opening_number, with_reply, outcome_number, undecided_state, decided_state, reported_number, reported_page}

-- ---- the graphs and messages of document 01
unfoldable pub G0 : List ℕ
G0 = 0 ∷ 9 ∷ 1 ∷ 1 ∷ 1 ∷ 1 ∷ 0 ∷ 1 ∷ 1 ∷ 0 ∷ 1 ∷ []

-- a list of four masks; 7, 11, 13, 14
unfoldable pub four : ℕ → ℕ → ℕ → ℕ → List ℕ
four a b c d = 4 ∷ 0 ∷ a ∷ 0 ∷ b ∷ 0 ∷ c ∷ 0 ∷ d ∷ []

unfoldable pub thirds : List ℕ
thirds = four 7 11 13 14

unfoldable pub G1 : List ℕ
G1 = 0 ∷ 48 ∷ 1 ∷ 4 ∷ 2 ∷ thirds ++ thirds ++ thirds ++ thirds ++ thirds

-- row 6: "G1, learner 0's quorums 3, 13, 14"
unfoldable pub not_valid : List ℕ
not_valid = 0 ∷ 46 ∷ 1 ∷ 4 ∷ 2 ∷ (3 ∷ 0 ∷ 3 ∷ 0 ∷ 13 ∷ 0 ∷ 14 ∷ []) ++ thirds ++ thirds ++ thirds ++ thirds

-- row 7: "three learners with G1's quorums; all safe lists are 15, but 0-2 is empty"
unfoldable pub not_condensed : List ℕ
not_condensed = 0 ∷ 46 ∷ 1 ∷ 4 ∷ 3 ∷ thirds ++ thirds ++ thirds ++ (1 ∷ 0 ∷ 15 ∷ 1 ∷ 0 ∷ 15 ∷ 0 ∷ 1 ∷ 0 ∷ 15 ∷ 1 ∷ 0 ∷ 15 ∷ 1 ∷ 0 ∷ 15 ∷ [])

-- a proposal for a house, bay 12, of a round number below 256
unfoldable pub proposal_for : ℕ → ℕ → List ℕ
proposal_for house round = 0 ∷ 15 ∷ 1 ∷ 1 ∷ 0 ∷ house ∷ 0 ∷ 12 ∷ 0 ∷ 0 ∷ 0 ∷ 0 ∷ round ∷ 0 ∷ 0 ∷ 0 ∷ 70 ∷ []

unfoldable pub P : List ℕ
P = proposal_for 1 5

-- the id rule of the calls
abbrev pub H : List ℕ → Id
H = sha256

unfoldable pub buffer : List ℕ
buffer = replicate reply_len 0

-- two ids in ascending order
unfoldable pub in_order : Id → Id → List ℕ
in_order x y = pick (before x y) (x ++ y) (y ++ x)

unfoldable pub start : List ℕ → ℕ → Round
start file own = (opened file 1 12 own).round

unfoldable pub deliver : Round → List ℕ → Effect
deliver r b = delivery H r b buffer

-- ---- the sample round under G0: house 1, bay 12, acceptor 0
unfoldable pub sample1 : Effect
sample1 = deliver (start G0 0) P

unfoldable pub z1 : List ℕ
z1 = sample1.reply

unfoldable pub sample2 : Effect
sample2 = deliver sample1.round z1

unfoldable pub z2 : List ℕ
z2 = sample2.reply

unfoldable pub sample3 : Effect
sample3 = deliver sample2.round z2

-- ---- other rows
-- an acceptor message of acceptor 0 for house 1, bay 12: its previous id, how many references, and their ids
unfoldable pub vote : Id → ℕ → List ℕ → List ℕ
vote previous n ids = acceptor_bytes 1 12 0 previous n ids

-- rounds that only listen: after P, and after P and z1, under a graph
unfoldable pub heard : List ℕ → Round
heard file = (deliver (start file 256) P).round

unfoldable pub heard2 : List ℕ → Round
heard2 file = (deliver (heard file) z1).round

unfoldable pub bit : Bool → ℕ
bit b = pick b 1 0

-- ---- the table: what comes out, and what is expected
pub record Case : Type 0 where
  pub found : ℕ
  pub expected : ℕ

unfoldable pub is : ℕ → ℕ → Case
is found expected = record { found = found; expected = expected }

unfoldable pub cases : List Case
cases =
    -- "G0 and G1 pass"
    is (opening_number (opened G0 1 12 0).answer) 0
    ∷ is (opening_number (opened G1 1 12 0).answer) 0
    ∷ is (length G1) 50
    -- rows 6 and 7
    ∷ is (opening_number (opened not_valid 1 12 0).answer) 6
    ∷ is (opening_number (opened not_condensed 1 12 0).answer) 7
    -- "P gives reply z1, 43 bytes, a 1b."
    ∷ is (outcome_number sample1.outcome) (with_reply + 43)
    ∷ is (length z1) 43
    ∷ is (bit (is1b (tree (table_of sample1.round) 1))) 1
    -- "z1 gives z2, 75 bytes, a 2a for learner 0."
    ∷ is (outcome_number sample2.outcome) (with_reply + 75)
    ∷ is (length z2) 75
    ∷ is (bit (is2a (tree (table_of sample2.round) 2))) 1
    ∷ is (bit (lrns (graph_of sample2.round) (tree (table_of sample2.round) 2) 0)) 1
    -- "The report after P and z1 is undecided; after z2 it is decided, value 70."
    ∷ is (reported_number sample2.round 0) 0
    ∷ is (reported_page sample2.round 0).state undecided_state
    ∷ is (reported_number sample3.round 0) 0
    ∷ is (reported_page sample3.round 0).state decided_state
    ∷ is (value_of (reported_page sample3.round 0).least) 70
    -- request 1: "In the sample round, z2 returning gives no reply and joins recent." Nothing more is held, and recent holds z2, place 2, alone.
    ∷ is (outcome_number sample3.outcome) 0
    ∷ is sample3.round.held 3
    ∷ is (bit (is_recent sample3.round 0)) 0
    ∷ is (bit (is_recent sample3.round 1)) 0
    ∷ is (bit (is_recent sample3.round 2)) 1
    -- "15 also covers the repeated vote": signer 0, previous z2, reference z2
    ∷ is (outcome_number (deliver sample3.round (vote (H z2) 1 (H z2))).outcome) 15
    -- "A proposal with round number 3 then gives no reply. z1 again is 10."
    ∷ is (outcome_number (deliver sample3.round (proposal_for 1 3)).outcome) 0
    ∷ is (outcome_number (deliver sample3.round z1).outcome) 10
    -- row 8: "P with house 4 in the round for house 1"
    ∷ is (outcome_number (deliver (start G0 0) (proposal_for 4 5)).outcome) 8
    -- row 12: "previous id is P's"
    ∷ is (outcome_number (deliver (heard G0) (vote (H P) 1 (H P))).outcome) 12
    -- row 14: "signer 0, previous z1, references z1 and P"
    ∷ is (outcome_number (deliver (heard2 G0) (vote (H z1) 2 (in_order (H z1) (H P)))).outcome) 14
    -- row 15: "under G1, only z1 beneath"
    ∷ is (outcome_number (deliver (heard2 G1) (vote (H z1) 1 (H z1))).outcome) 15
    ∷ []

unfoldable pub as_expected : Case → Bool
as_expected c = eqb c.found c.expected

-- Every case comes out as expected; proofs/Cases proves it under the same name.
abbrev pub CasesHold : Type 0
CasesHold = T (all as_expected cases)
