-- What the check of a graph file means: the theorems of specs/Theorems on valid and condensed.
use mathlib.Core.Path.{subst}
use mathlib.Core.Bool.{Bool, ◌||◌}
use mathlib.Core.Logic.{◌⊎◌, inl, inr}
use Prim.Native.Nat.{ℕ, ◌<◌}
use lib.Dec.{T}
use mathlib.Core.List.{List}
use Rattle.base.specs.Tests.{◌∈◌, any}
use Rattle.base.specs.Sets.{has, contains}
use Rattle.base.proofs.Tests.{or_l, or_r, or_out}
use Rattle.graph.specs.LearnerGraph.{LearnerGraph, is_quorum, is_safe, valid, condensed}
use Rattle.graph.specs.Theorems.{Definition13, Definition5, ValidMeans, CondensedMeans, SelfAgreement}
use Rattle.graph.proofs.LearnerGraph.{valid_law, condensed_law, quorum_law, safe_law}

-- a listed mask is a quorum, and a safe set, itself
listed_quorum : (G : LearnerGraph) (a q : ℕ) → q ∈ G.quorums a → T (is_quorum G a (has q))
listed_quorum G a q m = (quorum_law G a (has q)).1 (q, m, λ p l h. h)

listed_safe : (G : LearnerGraph) (a b s : ℕ) → s ∈ G.safes a b → T (is_safe G a b (has s))
listed_safe G a b s m = (safe_law G a b (has s)).1 (s, m, λ p l h. h)

pub valid_means : ValidMeans
valid_means G = (to, from)
  where
    to : T (valid G) → Definition13 G
    to h a b la lb S Q R hs hq hr =
        let (s, ms, cs) = (safe_law G a b S).0 hs in
        let (q, mq, cq) = (quorum_law G a Q).0 hq in
        let (r, mr, cr) = (quorum_law G b R).0 hr in
        let (p, lp, x, y, z) = (valid_law G).0 h a b la lb s q r ms mq mr in
        (p, lp, cs p lp x, cq p lp y, cr p lp z)

    from : Definition13 G → T (valid G)
    from d = (valid_law G).1 (λ a b la lb s q r ms mq mr. d a b la lb (has s) (has q) (has r) (listed_safe G a b s ms) (listed_quorum G a q mq) (listed_quorum G b r mr))

pub condensed_means : CondensedMeans
condensed_means G = (to, from)
  where
    -- a larger set is safe too
    larger : (a c : ℕ) (R S : ℕ → Bool) → ((p : ℕ) → p < G.acceptors → T (R p) → T (S p)) → T (is_safe G a c R) → T (is_safe G a c S)
    larger a c R S i h = let (q, m, k) = (safe_law G a c R).0 h in (safe_law G a c S).1 (q, m, λ p l x. i p l (k p l x))

    to : T (condensed G) → Definition5 G
    to h a b c la lb lc S hs ht =
        let (s, ms, cs) = (safe_law G a b S).0 hs in
        let (t, mt, ct) = (safe_law G b c S).0 ht in
        larger a c (λ p. has s p || has t p) S (λ p l u. step s t p (or_out (has s p) (has t p) u) (cs p l) (ct p l)) ((condensed_law G).0 h a b c la lb lc s t ms mt)
      where
        step : (s t p : ℕ) → T (has s p) ⊎ T (has t p) → (T (has s p) → T (S p)) → (T (has t p) → T (S p)) → T (S p)
        step s t p (inl x) f g = f x
        step s t p (inr x) f g = g x

    from : Definition5 G → T (condensed G)
    from d = (condensed_law G).1 (λ a b c la lb lc s t ms mt. d a b c la lb lc (λ p. has s p || has t p)
        (larger a b (has s) (λ p. has s p || has t p) (λ p l x. or_l (has s p) (has t p) x) (listed_safe G a b s ms))
        (larger b c (has t) (λ p. has s p || has t p) (λ p l x. or_r (has s p) (has t p) x) (listed_safe G b c t mt)))

pub self_agreement : SelfAgreement
unfolding is_safe
self_agreement G u d a b la lb S h = d a b a la lb la S h (subst (λ (l : List ℕ). T (any (contains G.acceptors S) l)) (u a b) h)
