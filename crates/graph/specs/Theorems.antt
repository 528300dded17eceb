-- What valid and condensed mean, as named statements; proofs/ proves each under the same name.
use Rattle.std.specs.Prelude.{◌≡◌, ◌↔◌, Bool, ℕ, ◌<◌, T}
use Rattle.graph.specs.LearnerGraph.{LearnerGraph, is_quorum, is_safe, valid, condensed}

-- Sets of acceptors are tests here, of which what is said of the numbers below `acceptors` counts: every set, listed or not.
module _ (G : LearnerGraph) where
  -- "A learner graph is valid iff for each pair of learners a and b, whenever they must agree, all of their quorums feature at least one safe
  -- acceptor in their intersection: s ∈ a-b ∧ q_a ∈ Q_a ∧ q_b ∈ Q_b ⇒ q_a ∩ q_b ∩ s ≠ ∅" (document 004)
  abbrev pub Definition13 : Type 0
  Definition13 =
      (a b : ℕ) → a < G.learners → b < G.learners → (S Q R : ℕ → Bool) → T (is_safe G a b S) → T (is_quorum G a Q) → T (is_quorum G b R)
      → (p : ℕ) × (p < G.acceptors) × T (S p) × T (Q p) × T (R p)

  -- "A learner graph G is condensed iff: ∀ a, b, c. (a-b ∩ b-c) ⊆ a-c" (document 004)
  abbrev pub Definition5 : Type 0
  Definition5 =
      (a b c : ℕ) → a < G.learners → b < G.learners → c < G.learners → (S : ℕ → Bool) → T (is_safe G a b S) → T (is_safe G b c S) → T (is_safe G a c S)

  -- "A learner must agree with itself in order to agree with anyone: a-b ⊆ a-a" (document 004)
  abbrev pub Lemma6 : Type 0
  Lemma6 = (a b : ℕ) → a < G.learners → b < G.learners → (S : ℕ → Bool) → T (is_safe G a b S) → T (is_safe G a a S)

  -- an edge is the same either way round
  abbrev pub Undirected : Type 0
  Undirected = (a b : ℕ) → G.safes a b ≡ G.safes b a

-- graphs that say the same of their learners
pub record SameGraph (G H : LearnerGraph) : Type 0 where
  pub acceptors : G.acceptors ≡ H.acceptors
  pub learners : G.learners ≡ H.learners
  pub quorums : (a : ℕ) → a < G.learners → G.quorums a ≡ H.quorums a
  pub safes : (a b : ℕ) → a < G.learners → b < G.learners → G.safes a b ≡ H.safes a b

-- ---- what is checked on the listed masks holds of all sets, and the other way round
abbrev pub ValidMeans : Type 0
ValidMeans = (G : LearnerGraph) → T (valid G) ↔ Definition13 G

abbrev pub CondensedMeans : Type 0
CondensedMeans = (G : LearnerGraph) → T (condensed G) ↔ Definition5 G

abbrev pub SelfAgreement : Type 0
SelfAgreement = (G : LearnerGraph) → Undirected G → Definition5 G → Lemma6 G
