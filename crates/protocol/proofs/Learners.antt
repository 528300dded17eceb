-- What each test of definitions 12 to 17 says, in the words of document 01: each law is an equivalence.
use mathlib.Core.Path.{◌≡◌}
use mathlib.Core.Logic.{◌↔◌, ◌≢◌}
use mathlib.Core.Bool.{Bool, not, ◌&&◌}
use Prim.Native.Nat.{ℕ, ◌<◌}
use lib.Dec.{T, eqb, eqb→eq, ltb→lt, lt→ltb, T_not, not_T}
use Rattle.base.specs.Tests.{◌∈◌, any, below}
use Rattle.base.specs.Sets.{has}
use Rattle.base.proofs.Tests.{below_in, below_out, any_in, any_out, all_in, all_out, filter_in, filter_out, and_l, and_r, and_in, eq→eqb, neqb→ne, ne→neqb}
use Rattle.graph.specs.LearnerGraph.{LearnerGraph, is_quorum}
use Rattle.graph.proofs.LearnerGraph.{quorum_law, without_law}
use Rattle.protocol.specs.Message.{Message, signer, is1b, is2a, tran, ballot, value, caught}
use Rattle.protocol.specs.Learners.{con, buried_by, con2as_by, fresh_by, backers_by, lrns, buried, con2as, fresh, backers}
use Rattle.protocol.proofs.Message.{chosen_law}
use Rattle.protocol.proofs.Knot.{lrns_is}

module _ (G : LearnerGraph) where
  -- b is in Con_a(m): a listed mask of a-b has no acceptor of Caught(m)
  abbrev pub Con : ℕ → Message → ℕ → Type 0
  Con a m b = (s : ℕ) × (s ∈ G.safes a b) × ((p : ℕ) → p < G.acceptors → T (has s p) → T (caught m p) → ⊥)

  pub con_law : (a : ℕ) (m : Message) (b : ℕ) → T (con G a m b) ↔ Con a m b
  unfolding con
  con_law a m b = without_law G a b (caught m)

  -- Buried_b(m, y): a 2a z in Tran(y) has b in lrns(z), B(z) > B(m) and V(z) ≠ V(m)
  abbrev pub Buried : ℕ → Message → Message → Type 0
  Buried b m y = (z : Message) × (z ∈ tran y) × T (is2a z) × T (lrns G z b) × (ballot m < ballot z) × (value z ≢ value m)

  pub buried_law : (b : ℕ) (m y : Message) → T (buried G b m y) ↔ Buried b m y
  unfolding buried_by
  buried_law b m y = (to, from)
    where
      to : T (buried G b m y) → Buried b m y
      to h = let (z, k, c) = any_out _ (tran y) h in
          (z, k, search (and_l, and_r), search (and_l, and_r), ltb→lt _ _ (search (and_l, and_r)), neqb→ne _ _ (search (and_l, and_r)))

      from : Buried b m y → T (buried G b m y)
      from (z, k, two, l, lt, ne) = any_in _ k (search (and_in, lt→ltb, ne→neqb))

  -- m is in Con2as_a(y): a 2a in Tran(y), of the signer of y, with some b in both lrns(m) and Con_a(y) for which Buried_b(m, y) fails
  abbrev pub Con2a : ℕ → Message → Message → Type 0
  Con2a a y m = (m ∈ tran y) × T (is2a m) × (signer m ≡ signer y)
      × ((b : ℕ) × (b < G.learners) × T (lrns G m b) × T (con G a y b) × (T (buried G b m y) → ⊥))

  pub con2as_law : (a : ℕ) (y m : Message) → m ∈ con2as G a y ↔ Con2a a y m
  unfolding con2as_by
  con2as_law a y m = (to, from)
    where
      stands : ℕ → Bool
      stands b = lrns G m b && con G a y b && not (buried G b m y)

      to : m ∈ con2as G a y → Con2a a y m
      to h =
          let (k, c) = filter_out _ (tran y) h in
          let t : T (any stands (below G.learners)) = search (and_l, and_r) in
          let (b, l, d) = any_out stands (below G.learners) t in
          (k, search (and_l, and_r), eqb→eq _ _ (search (and_l, and_r)), (b, below_out _ l, search (and_l, and_r), search (and_l, and_r), T_not (buried G b m y) (search (and_l, and_r))))

      from : Con2a a y m → m ∈ con2as G a y
      from (k, two, e, (b, l, x, c, n)) =
          let d : T (stands b) = search (and_in, not_T) in
          let t : T (any stands (below G.learners)) = any_in stands (below_in _ l) d in
          let q : T (eqb (signer m) (signer y)) = eq→eqb e in
          filter_in _ k (search and_in)

  -- y is fresh for a: every m of Con2as_a(y) has V(m) = V(y)
  pub fresh_law : (a : ℕ) (y : Message) → T (fresh G a y) ↔ ((m : Message) → Con2a a y m → value m ≡ value y)
  unfolding fresh_by
  fresh_law a y = (to, from)
    where
      to : T (fresh G a y) → (m : Message) → Con2a a y m → value m ≡ value y
      to h m c = eqb→eq _ _ (all_out _ ((con2as_law a y m).1 c) h)

      from : ((m : Message) → Con2a a y m → value m ≡ value y) → T (fresh G a y)
      from f = all_in _ _ (λ m k. eq→eqb (f m ((con2as_law a y m).0 k)))

  -- p signed a 1b in Tran(m) that is fresh for a and has ballot B(m)
  abbrev pub Backer : ℕ → Message → ℕ → Type 0
  Backer a m p = (y : Message) × (y ∈ tran m) × T (is1b y) × T (fresh G a y) × (ballot y ≡ ballot m) × (signer y ≡ p)

  pub backers_law : (a : ℕ) (m : Message) (p : ℕ) → T (backers G a m p) ↔ Backer a m p
  unfolding backers_by
  backers_law a m p = (to, from)
    where
      to : T (backers G a m p) → Backer a m p
      to h = let (y, k, c, e) = (chosen_law _ (tran m) p).0 h in
          (y, k, search (and_l, and_r), search (and_l, and_r), eqb→eq _ _ (search (and_l, and_r)), e)

      from : Backer a m p → T (backers G a m p)
      from (y, k, one, f, e, s) =
          let e' : T (eqb (ballot y) (ballot m)) = eq→eqb e in
          (chosen_law _ (tran m) p).1 (y, k, search and_in, s)

  -- a is in lrns(m): m is a 2a, and every acceptor of some listed quorum of a is such a signer
  abbrev pub Learns : Message → ℕ → Type 0
  Learns m a = T (is2a m) × ((q : ℕ) × (q ∈ G.quorums a) × ((p : ℕ) → p < G.acceptors → T (has q p) → Backer a m p))

  pub lrns_law : (m : Message) (a : ℕ) → T (lrns G m a) ↔ Learns m a
  lrns_law m a = (to, from)
    where
      to : T (lrns G m a) → Learns m a
      to h =
          let k : T (is2a m && is_quorum G a (backers G a m)) = rw lrns_is at h in
          let (q, i, f) = (quorum_law G a (backers G a m)).0 (and_r (is2a m) (is_quorum G a (backers G a m)) k) in
          (and_l (is2a m) (is_quorum G a (backers G a m)) k, (q, i, λ p l x. (backers_law a m p).0 (f p l x)))

      from : Learns m a → T (lrns G m a)
      from (two, (q, i, f)) = rw lrns_is
          (and_in (is2a m) (is_quorum G a (backers G a m)) two ((quorum_law G a (backers G a m)).1 (q, i, λ p l x. (backers_law a m p).1 (f p l x))))
