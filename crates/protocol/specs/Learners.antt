-- Con, Buried, Con2as, fresh, the quorum of a message and lrns: definitions 12 to 17 of the report, each under its sentence of document 01.
-- Definitions 13 to 17 call each other, always on messages further down. So each is given over L, where `L z b` says that b is in lrns(z),
-- under a name that ends in `By`; then the knot is tied once. Learners are asked for below `learners` wherever one is meant to be of the graph.
use Rattle.std.specs.Prelude.{Bool, false, not, ◌&&◌, List, ℕ, zero, suc, max, eqb, ltb}
use Rattle.base.specs.Tests.{any, all, filter, below}
use Rattle.graph.specs.LearnerGraph.{LearnerGraph, is_quorum, safe_without}
use Rattle.protocol.specs.Message.{Message, proposal, acceptor, Messages, nil, cons, signer, is1b, is2a, signers, tran, ballot, value, caught}

abbrev pub Lrns : Type 0
Lrns = Message → ℕ → Bool

-- ---- definition 12: "Con_a(m): learners b with a listed mask of a-b that has no acceptor of Caught(m)"
unfoldable pub con : LearnerGraph → ℕ → Message → ℕ → Bool
con G a m b = safe_without G a b (caught m)

-- ---- definition 13: "Buried_b(m, y): a 2a z in Tran(y) has b in lrns(z), B(z) > B(m) and V(z) ≠ V(m)"
unfoldable pub buried_by : Lrns → ℕ → Message → Message → Bool
buried_by L b m y = any (λ z. is2a z && L z b && ltb (ballot m) (ballot z) && not (eqb (value z) (value m))) (tran y)

-- ---- definition 14, read with lrns(m): "Con2as_a(y): the 2as m in Tran(y), of the signer of y, with some b in both lrns(m) and
-- Con_a(y) for which Buried_b(m, y) fails"
unfoldable pub con2as_by : LearnerGraph → Lrns → ℕ → Message → List Message
con2as_by G L a y = filter (λ m. is2a m && eqb (signer m) (signer y) && any (λ b. L m b && con G a y b && not (buried_by L b m y)) (below G.learners)) (tran y)

-- ---- definition 15: "A 1b y is fresh for a if every m of Con2as_a(y) has V(m) = V(y)"
unfoldable pub fresh_by : LearnerGraph → Lrns → ℕ → Message → Bool
fresh_by G L a y = all (λ m. eqb (value m) (value y)) (con2as_by G L a y)

-- ---- definition 16: "the signers of the 1bs in Tran(m) that are fresh for a and have ballot B(m)"
unfoldable pub backers_by : LearnerGraph → Lrns → ℕ → Message → ℕ → Bool
backers_by G L a m = signers (filter (λ y. is1b y && fresh_by G L a y && eqb (ballot y) (ballot m)) (tran m))

-- ---- definition 17: "a is in lrns(m), m a 2a, if" these "are a quorum of a"
unfoldable pub lrns_by : LearnerGraph → Lrns → Message → ℕ → Bool
lrns_by G L m a = is2a m && is_quorum G a (backers_by G L a m)

-- ---- the knot: L is lrns of messages further down. The height only makes the recursion end and does not matter: `LearnersAsDefined`
-- (Equations) has the six definitions with lrns in place of L and with no height.
unfoldable mutual
  pub height : Message → ℕ
  height (proposal i s b) = 0
  height (acceptor i s p r) = suc (heights r)

  pub heights : Messages → ℕ
  heights nil = 0
  heights (cons m r) = max (height m) (heights r)

unfoldable pub lrns_in : LearnerGraph → ℕ → Message → ℕ → Bool
lrns_in G zero m a = false
lrns_in G (suc k) m a = lrns_by G (lrns_in G k) m a

unfoldable pub lrns : LearnerGraph → Message → ℕ → Bool
lrns G m a = lrns_in G (suc (height m)) m a

-- ---- definitions 13 to 16, with lrns in place of L
abbrev pub buried : LearnerGraph → ℕ → Message → Message → Bool
buried G b m y = buried_by (lrns G) b m y

abbrev pub con2as : LearnerGraph → ℕ → Message → List Message
con2as G a y = con2as_by G (lrns G) a y

abbrev pub fresh : LearnerGraph → ℕ → Message → Bool
fresh G a y = fresh_by G (lrns G) a y

abbrev pub backers : LearnerGraph → ℕ → Message → ℕ → Bool
backers G a m = backers_by G (lrns G) a m
