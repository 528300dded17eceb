-- Graphs that say the same of their learners are valid, and condensed, alike.
use mathlib.Core.Path.{◌≡◌, ap, ◌∙◌}
use mathlib.Core.Bool.{◌&&◌, ◌||◌}
use Prim.Native.Nat.{ℕ, ◌<◌}
use Rattle.base.specs.Tests.{any, all, below}
use Rattle.base.specs.Sets.{has, contains}
use Rattle.base.proofs.Tests.{all_cong, below_out}
use Rattle.graph.specs.LearnerGraph.{LearnerGraph, is_safe, common, valid_at, valid, condensed_at, condensed}
use Rattle.graph.specs.Theorems.{SameGraph}

module _ (G H : LearnerGraph) (S : SameGraph G H) where
  valid_at_lem : (a b : ℕ) → a < G.learners → b < G.learners → valid_at G a b ≡ valid_at H a b
  unfolding valid_at common
  valid_at_lem a b la lb =
      λ i. all (λ s. all (λ q. all (λ r. any (λ p. has s p && has q p && has r p) (below (S.acceptors i))) (S.quorums b lb i)) (S.quorums a la i)) (S.safes a b la lb i)

  pub valid_same : valid G ≡ valid H
  unfolding valid
  valid_same =
      all_cong _ _ (below G.learners) (λ a ma. all_cong _ _ (below G.learners) (λ b mb. valid_at_lem a b (below_out _ ma) (below_out _ mb)))
      ∙ ap (λ (n : ℕ). all (λ a. all (λ b. valid_at H a b) (below n)) (below n)) S.learners

  condensed_at_lem : (a b c : ℕ) → a < G.learners → b < G.learners → c < G.learners → condensed_at G a b c ≡ condensed_at H a b c
  unfolding condensed_at is_safe
  condensed_at_lem a b c la lb lc =
      λ i. all (λ s. all (λ t. any (contains (S.acceptors i) (λ p. has s p || has t p)) (S.safes a c la lc i)) (S.safes b c lb lc i)) (S.safes a b la lb i)

  pub condensed_same : condensed G ≡ condensed H
  unfolding condensed
  condensed_same =
      all_cong _ _ (below G.learners) (λ a ma. all_cong _ _ (below G.learners) (λ b mb. all_cong _ _ (below G.learners) (λ c mc. condensed_at_lem a b c (below_out _ ma) (below_out _ mb) (below_out _ mc))))
      ∙ ap (λ (n : ℕ). all (λ a. all (λ b. all (λ c. condensed_at H a b c) (below n)) (below n)) (below n)) S.learners
