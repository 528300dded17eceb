-- The learner graph: its quorums and safe sets as lists of masks, and what makes it valid and condensed (document 01, "The graph file").
use Rattle.std.specs.Prelude.{Bool, ◌&&◌, ◌||◌, List, ℕ}
use Rattle.base.specs.Tests.{any, all, below}
use Rattle.base.specs.Sets.{has, contains, apart}

-- Acceptors are the numbers below `acceptors`, learners those below `learners`. `quorums a` lists masks of the learner a,
-- `safes a b` those of the pair, or edge, a-b.
pub record LearnerGraph : Type 0 where
  pub acceptors : ℕ
  pub learners : ℕ
  pub quorums : ℕ → List ℕ
  pub safes : ℕ → ℕ → List ℕ

module _ (G : LearnerGraph) where
  -- "A set is a quorum, or a safe set, if it contains a listed mask."
  unfoldable pub is_quorum : ℕ → (ℕ → Bool) → Bool
  is_quorum a S = any (contains G.acceptors S) (G.quorums a)

  unfoldable pub is_safe : ℕ → ℕ → (ℕ → Bool) → Bool
  is_safe a b S = any (contains G.acceptors S) (G.safes a b)

  -- some listed safe mask of a-b has no acceptor of the set S (Con, definition 12 of the report, asks this of Caught)
  unfoldable pub safe_without : ℕ → ℕ → (ℕ → Bool) → Bool
  safe_without a b S = any (apart G.acceptors S) (G.safes a b)

  -- s, q and r have a common acceptor
  unfoldable pub common : ℕ → ℕ → ℕ → Bool
  common s q r = any (λ p. has s p && has q p && has r p) (below G.acceptors)

  -- "Valid: for every pair a, b (a = b included), every listed safe mask and every listed quorum of a and of b, the three have a
  -- common acceptor."
  unfoldable pub valid_at : ℕ → ℕ → Bool
  valid_at a b = all (λ s. all (λ q. all (λ r. common s q r) (G.quorums b)) (G.quorums a)) (G.safes a b)

  unfoldable pub valid : Bool
  valid = all (λ a. all (λ b. valid_at a b) (below G.learners)) (below G.learners)

  -- "Condensed: for all a, b, c, the union of a listed mask of a-b and one of b-c contains a listed mask of a-c."
  unfoldable pub condensed_at : ℕ → ℕ → ℕ → Bool
  condensed_at a b c = all (λ s. all (λ t. is_safe a c (λ p. has s p || has t p)) (G.safes b c)) (G.safes a b)

  unfoldable pub condensed : Bool
  condensed = all (λ a. all (λ b. all (λ c. condensed_at a b c) (below G.learners)) (below G.learners)) (below G.learners)
