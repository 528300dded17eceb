-- What the tests of the learner graph say: one law, an equivalence, for each.
use mathlib.Core.Path.{◌≡◌, sym, subst}
use mathlib.Core.Logic.{◌↔◌}
use mathlib.Core.Bool.{Bool, not, ◌&&◌, ◌||◌}
use mathlib.Core.List.{List}
use Prim.Native.Nat.{ℕ, ◌<◌}
use lib.Bits.{bit_and}
use lib.Dec.{T, T_not, not_T}
use Rattle.base.specs.Tests.{◌∈◌, below}
use Rattle.base.specs.Sets.{has, contains, apart}
use Rattle.base.proofs.Tests.{any_in, any_out, all_in, all_out, below_in, below_out, and_l, and_r, and_in, same_test, any_cong}
use Rattle.base.proofs.Sets.{Contains, contains_law, contains_cong, Apart, apart_law, apart_cong, has_and}
use Rattle.graph.specs.LearnerGraph.{LearnerGraph, is_quorum, is_safe, safe_without, common, valid_at, valid, condensed_at, condensed}

module _ (G : LearnerGraph) where
  -- a listed mask of which every acceptor is in S
  abbrev pub Listed : List ℕ → (ℕ → Bool) → Type 0
  Listed l S = (q : ℕ) × (q ∈ l) × Contains G.acceptors S q

  pub quorum_law : (a : ℕ) (S : ℕ → Bool) → T (is_quorum G a S) ↔ Listed (G.quorums a) S
  unfolding is_quorum
  quorum_law a S = (to, from)
    where
      to : T (is_quorum G a S) → Listed (G.quorums a) S
      to h = let (q, m, k) = any_out (contains G.acceptors S) (G.quorums a) h in (q, m, (contains_law G.acceptors S q).0 k)

      from : Listed (G.quorums a) S → T (is_quorum G a S)
      from (q, m, k) = any_in (contains G.acceptors S) m ((contains_law G.acceptors S q).1 k)

  pub safe_law : (a b : ℕ) (S : ℕ → Bool) → T (is_safe G a b S) ↔ Listed (G.safes a b) S
  unfolding is_safe
  safe_law a b S = (to, from)
    where
      to : T (is_safe G a b S) → Listed (G.safes a b) S
      to h = let (q, m, k) = any_out (contains G.acceptors S) (G.safes a b) h in (q, m, (contains_law G.acceptors S q).0 k)

      from : Listed (G.safes a b) S → T (is_safe G a b S)
      from (q, m, k) = any_in (contains G.acceptors S) m ((contains_law G.acceptors S q).1 k)

  pub without_law : (a b : ℕ) (S : ℕ → Bool) → T (safe_without G a b S) ↔ ((q : ℕ) × (q ∈ G.safes a b) × Apart G.acceptors S q)
  unfolding safe_without
  without_law a b S = (to, from)
    where
      to : T (safe_without G a b S) → (q : ℕ) × (q ∈ G.safes a b) × Apart G.acceptors S q
      to h = let (q, m, k) = any_out (apart G.acceptors S) (G.safes a b) h in (q, m, (apart_law G.acceptors S q).0 k)

      from : (q : ℕ) × (q ∈ G.safes a b) × Apart G.acceptors S q → T (safe_without G a b S)
      from (q, m, k) = any_in (apart G.acceptors S) m ((apart_law G.acceptors S q).1 k)

  -- equal sets of acceptors are quorums, and safe, alike
  pub quorum_cong : (a : ℕ) (S R : ℕ → Bool) → ((p : ℕ) → p < G.acceptors → S p ≡ R p) → is_quorum G a S ≡ is_quorum G a R
  unfolding is_quorum
  quorum_cong a S R e = any_cong _ _ (G.quorums a) (λ q m. contains_cong G.acceptors S R q e)

  pub without_cong : (a b : ℕ) (S R : ℕ → Bool) → ((p : ℕ) → p < G.acceptors → S p ≡ R p) → safe_without G a b S ≡ safe_without G a b R
  unfolding safe_without
  without_cong a b S R e = any_cong _ _ (G.safes a b) (λ q m. apart_cong G.acceptors S R q e)

  -- an acceptor of all three
  abbrev pub Common : ℕ → ℕ → ℕ → Type 0
  Common s q r = (p : ℕ) × (p < G.acceptors) × T (has s p) × T (has q p) × T (has r p)

  pub common_law : (s q r : ℕ) → T (common G s q r) ↔ Common s q r
  unfolding common
  common_law s q r = (to, from)
    where
      to : T (common G s q r) → Common s q r
      to h = let (p, m, k) = any_out (λ p. has s p && has q p && has r p) (below G.acceptors) h in
          (p, below_out _ m, search (and_l, and_r), search (and_l, and_r), search (and_l, and_r))

      from : Common s q r → T (common G s q r)
      from (p, l, x, y, z) = any_in (λ p. has s p && has q p && has r p) (below_in _ l) (search and_in)

  -- every listed safe mask of a-b, every listed quorum of a and of b have a common acceptor
  abbrev pub Valid : Type 0
  Valid = (a b : ℕ) → a < G.learners → b < G.learners → (s q r : ℕ) → s ∈ G.safes a b → q ∈ G.quorums a → r ∈ G.quorums b → Common s q r

  pub valid_law : T (valid G) ↔ Valid
  unfolding valid valid_at
  valid_law = (to, from)
    where
      to : T (valid G) → Valid
      to h a b la lb s q r i j k = (common_law s q r).0 (all_out _ k (all_out _ j (all_out _ i (all_out _ (below_in _ lb) (all_out _ (below_in _ la) h)))))

      from : Valid → T (valid G)
      from f = all_in _ _ (λ a ma. all_in _ _ (λ b mb. all_in _ _ (λ s i. all_in _ _ (λ q j. all_in _ _ (λ r k.
          (common_law s q r).1 (f a b (below_out _ ma) (below_out _ mb) s q r i j k))))))

  -- the union of a listed safe mask of a-b and one of b-c is a safe set of a-c
  abbrev pub Condensed : Type 0
  Condensed = (a b c : ℕ) → a < G.learners → b < G.learners → c < G.learners → (s t : ℕ) → s ∈ G.safes a b → t ∈ G.safes b c
      → T (is_safe G a c (λ p. has s p || has t p))

  pub condensed_law : T (condensed G) ↔ Condensed
  unfolding condensed condensed_at
  condensed_law = (to, from)
    where
      to : T (condensed G) → Condensed
      to h a b c la lb lc s t i j = all_out _ j (all_out _ i (all_out _ (below_in _ lc) (all_out _ (below_in _ lb) (all_out _ (below_in _ la) h))))

      from : Condensed → T (condensed G)
      from f = all_in _ _ (λ a ma. all_in _ _ (λ b mb. all_in _ _ (λ c mc. all_in _ _ (λ s i. all_in _ _ (λ t j.
          f a b c (below_out _ ma) (below_out _ mb) (below_out _ mc) s t i j)))))

  -- a-b and b-a have the same listed masks
  abbrev pub Symmetric : Type 0
  Symmetric = (a b s : ℕ) → s ∈ G.safes a b → s ∈ G.safes b a

  -- none in common with what s and q have in common
  pub apart_common : (s q t : ℕ) → apart G.acceptors (has (bit_and s q)) t ≡ not (common G s q t)
  apart_common s q t = same_test _ _ to from
    where
      to : T (apart G.acceptors (has (bit_and s q)) t) → T (not (common G s q t))
      to h = not_T (common G s q t) (λ k. let (p, l, x, y, z) = (common_law s q t).0 k in
          (apart_law G.acceptors (has (bit_and s q)) t).0 h p l z (subst T (sym (has_and s q p)) (and_in (has s p) (has q p) x y)))

      from : T (not (common G s q t)) → T (apart G.acceptors (has (bit_and s q)) t)
      from h = (apart_law G.acceptors (has (bit_and s q)) t).1 (λ p l z m.
          let u = subst T (has_and s q p) m in
          T_not (common G s q t) h ((common_law s q t).1 (p, l, and_l (has s p) (has q p) u, and_r (has s p) (has q p) u, z)))
