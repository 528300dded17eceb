-- The theorems, as statements; proofs/ proves each under the same name, in the file that its comment names. Validity is theorem 21 of the
-- report, agreement theorem 22 and the first half of demand 3.
use Rattle.std.specs.Prelude.{◌≡◌, ◌≢◌, Bool, not, List, ◌++◌, ℕ, ◌<◌, T}
use Rattle.base.specs.Tests.{◌∈◌}
use Rattle.base.specs.Ballots.{value_of}
use Rattle.graph.specs.LearnerGraph.{LearnerGraph, is_safe, valid, condensed}
use Rattle.protocol.specs.Message.{Message, id_of, is_proposal, tran, ballot, value, caught_in}
use Rattle.protocol.specs.WellFormed.{chained, formed1b}
use Rattle.protocol.specs.Report.{decides, Verdict, decided, split, report}
use Rattle.protocol.specs.Table.{Table, at, places, held_id, Ordered, tree, messages, content}
use Rattle.protocol.specs.Equations.{Peopled}

-- ---- the learner graph of both learners: valid (definition 2), condensed (definition 1), and a-b has the masks of b-a
pub record SoundGraph (G : LearnerGraph) : Type 0 where
  pub is_valid : T (valid G)
  pub is_condensed : T (condensed G)
  pub undirected : (a b s : ℕ) → s ∈ G.safes a b → s ∈ G.safes b a

-- ---- a set of messages whose chains can be followed: with a message, all of its Tran; chained; and told apart by their ids
pub record Chained (M : List Message) : Type 0 where
  pub closed : (m x : Message) → m ∈ M → x ∈ tran m → x ∈ M
  pub links : (m : Message) → m ∈ M → T (chained m)
  pub apart : (x y : Message) → x ∈ M → y ∈ M → id_of x ≡ id_of y → x ≡ y

-- a set of accepted messages: its 1bs are well-formed, too
pub record Lawful (M : List Message) : Type 0 where
  pub chains : Chained M
  pub forms : (m : Message) → m ∈ M → T (formed1b m)

-- p signed no two different acceptor messages of M that have the same previous id or both none
abbrev pub Honest : List Message → ℕ → Type 0
Honest M p = T (not (caught_in M p))

-- definition 3, over the accepted messages M: some safe set of a-b holds only honest acceptors
pub record Entangled (G : LearnerGraph) (M : List Message) (a b : ℕ) : Type 0 where
  pub safe : ℕ → Bool
  pub is_safe_set : T (is_safe G a b safe)
  pub honest : (p : ℕ) → p < G.acceptors → T (safe p) → Honest M p

abbrev pub Within : {A : Type 0} → List A → List A → Type 0
Within {A} K M = (m : A) → m ∈ K → m ∈ M

-- ---- theorem 21, validity: a ballot that decides is that of a proposal in Tran of a known message, and its value is that proposal's.
-- proofs/Validity proves it.
abbrev pub Validity : Type 0
Validity = (G : LearnerGraph) (a : ℕ) → Peopled G a → (K : List Message) (x : ℕ) → T (decides G K a x)
    → (m : Message) × (m ∈ K) × ((y : Message) × (y ∈ tran m) × T (is_proposal y) × (ballot y ≡ x) × (value y ≡ value_of x))

-- ---- theorem 22, agreement: the ballots that decide for a in some messages of M, and for b in some, carry one value. proofs/Agreement
-- proves it.
abbrev pub Agreement : Type 0
Agreement = (G : LearnerGraph) → SoundGraph G → (M : List Message) → Lawful M
    → (a b : ℕ) → a < G.learners → b < G.learners → Entangled G M a b
    → (K J : List Message) → Within K M → Within J M
    → (x y : ℕ) → T (decides G K a x) → T (decides G J b y) → value_of x ≡ value_of y

-- ---- the same of reports: neither is a split, and two that are decided give one value
abbrev pub NoSplit : Verdict → Type 0
NoSplit v = (x y : ℕ) → v ≢ split x y

pub record Agree (v w : Verdict) : Type 0 where
  pub first : NoSplit v
  pub second : NoSplit w
  pub one_value : (x y : ℕ) → v ≡ decided x → w ≡ decided y → value_of x ≡ value_of y

-- proofs/Agreement proves it, too.
abbrev pub ReportsAgree : Type 0
ReportsAgree = (G : LearnerGraph) → SoundGraph G → (M : List Message) → Lawful M
    → (a b : ℕ) → a < G.learners → b < G.learners → Entangled G M a b
    → (K J : List Message) → Within K M → Within J M → Agree (report G K a) (report G J b)

-- ---- between tables. The places ks of t hold chained messages; with a place, ks has those that it refers to.
pub record ChainedAt (t : Table) (ks : List ℕ) : Type 0 where
  pub ordered : Ordered t
  pub closed : (i j : ℕ) → i ∈ ks → j ∈ places (at t i) → j ∈ ks
  pub links : (i : ℕ) → i ∈ ks → T (chained (tree t i))

-- they hold accepted messages, each checked on entry
pub record Accepted (t : Table) (ks : List ℕ) : Type 0 where
  pub chains : ChainedAt t ks
  pub forms : (i : ℕ) → i ∈ ks → T (formed1b (tree t i))

-- no two different messages have one id: where ids are equal, so is what the bytes say
abbrev pub NoCollision : Table → List ℕ → Table → List ℕ → Type 0
NoCollision t ks u js = (i j : ℕ) → i ∈ ks → j ∈ js → held_id (at t i) ≡ held_id (at u j) → content t i ≡ content u j

-- Two tables t and u, with the accepted places ks and js; reports for a over some of the accepted places of t, for b over some of u.
-- proofs/Tables proves it.
abbrev pub TablesAgree : Type 0
TablesAgree = (G : LearnerGraph) → SoundGraph G → (t u : Table) (ks js : List ℕ) → Accepted t ks → Accepted u js
    → NoCollision t ks t ks → NoCollision t ks u js → NoCollision u js u js
    → (a b : ℕ) → a < G.learners → b < G.learners → Entangled G (messages t ks ++ messages u js) a b
    → (is hs : List ℕ) → Within is ks → Within hs js
    → Agree (report G (messages t is) a) (report G (messages u hs) b)
