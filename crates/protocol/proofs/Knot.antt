-- The knot of lrns: fresh reads lrns only in Tran of its message, and lrns only below its own, so the height does not matter and each
-- of definitions 12 to 17 holds as an equation.
use mathlib.Core.Path.{◌≡◌, refl, subst}
use mathlib.Core.Logic.{◌⊎◌, inl, inr}
use mathlib.Core.Bool.{◌&&◌}
use Prim.Native.Nat.{ℕ, zero, suc, ◌<◌}
use native.Mathlib.Omega.{arith}
use lib.Dec.{T, eqb}
use Rattle.base.specs.Tests.{◌∈◌}
use Rattle.base.proofs.Tests.{any_cong, filter_cong, and_cong}
use Rattle.graph.specs.LearnerGraph.{LearnerGraph, is_quorum}
use Rattle.protocol.specs.Message.{Message, is1b, is2a, signers, tran, ballot}
use Rattle.protocol.specs.Learners.{Lrns, con, buried_by, con2as_by, fresh_by, backers_by, lrns_by, height, lrns_in, lrns, backers}
use Rattle.protocol.specs.Equations.{LearnersAsDefined}
use Rattle.protocol.proofs.Message.{2a-law, beneath, tran_cases, beneath_closed}
use Rattle.protocol.proofs.Ballot.{height_beneath}

-- ---- where L is read
module _ (G : LearnerGraph) (L K : Lrns) where
  buried_cong : (b : ℕ) (m y : Message) → ((z : Message) → z ∈ tran y → (c : ℕ) → L z c ≡ K z c) → buried_by L b m y ≡ buried_by K b m y
  unfolding buried_by
  buried_cong b m y e = any_cong _ _ (tran y) (λ z h. rw (e z h b))

  con2as_cong : (a : ℕ) (y : Message) → ((z : Message) → z ∈ tran y → (c : ℕ) → L z c ≡ K z c) → con2as_by G L a y ≡ con2as_by G K a y
  unfolding con2as_by
  con2as_cong a y e = filter_cong _ _ (tran y) (λ m h. let buries : (b : ℕ) → buried_by L b m y ≡ buried_by K b m y = λ b. buried_cong b m y e in simp (e m h, buries))

  fresh_cong : (a : ℕ) (y : Message) → ((z : Message) → z ∈ tran y → (c : ℕ) → L z c ≡ K z c) → fresh_by G L a y ≡ fresh_by G K a y
  unfolding fresh_by
  fresh_cong a y e = rw (con2as_cong a y e)

  lrns_cong : (m : Message) (a : ℕ) → ((z : Message) → z ∈ beneath m → (c : ℕ) → L z c ≡ K z c) → lrns_by G L m a ≡ lrns_by G K m a
  unfolding lrns_by backers_by
  lrns_cong m a e = and_cong (is2a m) _ _ (λ two. λ i. is_quorum G a (signers (filter_cong _ _ (tran m) (λ y h. one two y (tran_cases m h)) i)))
    where
      deep : T (is2a m) → (y : Message) → (y ≡ m) ⊎ (y ∈ beneath m) → T (is1b y) → (z : Message) → z ∈ tran y → (c : ℕ) → L z c ≡ K z c
      deep two y (inl d) k z h c = absurd (((2a-law m).0 two).1 (subst (λ (x : Message). T (is1b x)) d k))
      deep two y (inr q) k z h c = e z (beneath_closed m q h) c

      one : T (is2a m) → (y : Message) → (y ≡ m) ⊎ (y ∈ beneath m) → (is1b y && fresh_by G L a y && eqb (ballot y) (ballot m)) ≡ (is1b y && fresh_by G K a y && eqb (ballot y) (ballot m))
      one two y h = λ i. and_cong (is1b y) (fresh_by G L a y) (fresh_by G K a y) (λ k. fresh_cong a y (deep two y h k)) i && eqb (ballot y) (ballot m)

-- ---- more height changes nothing
stable : (G : LearnerGraph) (j k : ℕ) (m : Message) (a : ℕ) → height m < j → height m < k → lrns_in G j m a ≡ lrns_in G k m a
unfolding lrns_in
stable G zero k m a h l = absurd (omega arith)
stable G (suc j) zero m a h l = absurd (omega arith)
stable G (suc j) (suc k) m a h l =
    lrns_cong G (lrns_in G j) (lrns_in G k) m a (λ z q c. stable G j k z c (omega (arith, height_beneath m q)) (omega (arith, height_beneath m q)))

pub lrns_is : (G : LearnerGraph) (m : Message) (a : ℕ) → lrns G m a ≡ (is2a m && is_quorum G a (backers G a m))
unfolding lrns lrns_in lrns_by
lrns_is G m a = lrns_cong G (lrns_in G (height m)) (lrns G) m a (λ z q c. stable G (height m) (suc (height z)) z c (height_beneath m q) (omega arith))

-- ---- THE EQUATIONS of definitions 12 to 17: but for that of lrns, each is its definition
pub learners_as_defined : LearnersAsDefined
unfolding con buried_by con2as_by fresh_by backers_by
learners_as_defined G = record {
  definition12 = λ a m b. refl;
  definition13 = λ b m y. refl;
  definition14 = λ a y. refl;
  definition15 = λ a y. refl;
  definition16 = λ a m. refl;
  definition17 = lrns_is G;
}
