-- What the definitions amount to, as propositions. In a definition a height, or a number above a place, only makes the recursion end, and
-- the report looks at the ballots of known 2as alone: here each is said without. proofs/ proves each under the same name, in the file that
-- its comment names.
use Rattle.std.specs.Prelude.{◌≡◌, ◌↔◌, ◌≢◌, not, ◌&&◌, ◌||◌, List, ℕ, ◌≤◌, ◌<◌, T, eqb, ltb}
use Rattle.base.specs.Tests.{◌∈◌, any, all, filter, below}
use Rattle.base.specs.Sets.{has}
use Rattle.base.specs.Ballots.{value_of}
use Rattle.graph.specs.LearnerGraph.{LearnerGraph, is_quorum, safe_without}
use Rattle.protocol.specs.Message.{Message, signer, is1b, is2a, signers, tran, ballot, value, caught}
use Rattle.protocol.specs.Learners.{con, buried, con2as, fresh, backers, lrns}
use Rattle.protocol.specs.Report.{decides, decision, Verdict, undecided, decided, split, report}
use Rattle.protocol.specs.Table.{Table, at, places, Ordered, node_by, tree, reach}

-- ---- definitions 12 to 17, which call each other as in the report: no L, and no height
pub record Definitions12To17 (G : LearnerGraph) : Type 0 where
  -- Con_a(m)
  pub definition12 : (a : ℕ) (m : Message) (b : ℕ) → con G a m b ≡ safe_without G a b (caught m)
  -- Buried_b(m, y)
  pub definition13 : (b : ℕ) (m y : Message) → buried G b m y ≡ any (λ z. is2a z && lrns G z b && ltb (ballot m) (ballot z) && not (eqb (value z) (value m))) (tran y)
  -- Con2as_a(y)
  pub definition14 : (a : ℕ) (y : Message)
      → con2as G a y ≡ filter (λ m. is2a m && eqb (signer m) (signer y) && any (λ b. lrns G m b && con G a y b && not (buried G b m y)) (below G.learners)) (tran y)
  -- fresh_a(y)
  pub definition15 : (a : ℕ) (y : Message) → fresh G a y ≡ all (λ m. eqb (value m) (value y)) (con2as G a y)
  -- q_a(m), the quorum of a message
  pub definition16 : (a : ℕ) (m : Message) → backers G a m ≡ signers (filter (λ y. is1b y && fresh G a y && eqb (ballot y) (ballot m)) (tran m))
  -- lrns(m)
  pub definition17 : (m : Message) (a : ℕ) → lrns G m a ≡ (is2a m && is_quorum G a (backers G a m))

-- So they are, for every learner graph. proofs/Knot proves it.
abbrev pub LearnersAsDefined : Type 0
LearnersAsDefined = (G : LearnerGraph) → Definitions12To17 G

-- ---- in a table whose references are to earlier places, the message of a place is the tree of its record: its references are the messages
-- of the places that the record names. proofs/Table proves it.
abbrev pub TreeOfRecord : Type 0
TreeOfRecord = (t : Table) → Ordered t → (i : ℕ) → tree t i ≡ node_by (tree t) (at t i)

-- There a place reaches itself, and what the places reach that its record names. proofs/Table proves it.
abbrev pub ReachOfRecord : Type 0
ReachOfRecord = (t : Table) → Ordered t → (i j : ℕ) → reach t i j ≡ (eqb i j || any (λ k. reach t k j) (places (at t i)))

-- So Tran of the message of a place is the messages of the places that it reaches. proofs/Table proves it.
abbrev pub TranOfPlace : Type 0
TranOfPlace = (t : Table) → Ordered t → (i : ℕ) (x : Message) → x ∈ tran (tree t i) ↔ ((j : ℕ) × T (reach t i j) × (x ≡ tree t j))

-- ---- a ballot x decides for a exactly where definition 19 has a decision: some of the known messages K, all of ballot x, are one.
-- proofs/Decides proves it.
abbrev pub DecidesByDecision : Type 0
DecidesByDecision = (G : LearnerGraph) (K : List Message) (a x : ℕ)
    → T (decides G K a x) ↔ ((S : List Message) × ((m : Message) → m ∈ S → (m ∈ K) × (ballot m ≡ x)) × T (decision G a S))

-- ---- the report in the words of document 01, where D says which ballots decide
-- b is the least number of which D holds
abbrev pub Least : (ℕ → Type 0) → ℕ → Type 0
Least D b = D b × ((x : ℕ) → D x → b ≤ x)

abbrev pub Says : (ℕ → Type 0) → Verdict → Type 0
-- "Undecided: no ballot decides."
Says D undecided = (x : ℕ) → D x → ⊥
-- "Decided: all that do carry one value; it gives the least such ballot."
Says D (decided b) = Least D b × ((x : ℕ) → D x → value_of x ≡ value_of b)
-- "Split: they carry two or more values; it gives the least such ballot and the least of another value."
Says D (split b c) = Least D b × Least (λ x. D x × (value_of x ≢ value_of b)) c

-- every listed quorum of a names an acceptor
abbrev pub Peopled : LearnerGraph → ℕ → Type 0
Peopled G a = (q : ℕ) → q ∈ G.quorums a → (p : ℕ) × (p < G.acceptors) × T (has q p)

-- Where that is so, the report is the verdict that says what is so of all ballots that decide, and no other one. proofs/Report proves it.
abbrev pub ReportSays : Type 0
ReportSays = (G : LearnerGraph) (K : List Message) (a : ℕ) → Peopled G a → (v : Verdict) → (report G K a ≡ v) ↔ Says (λ x. T (decides G K a x)) v
