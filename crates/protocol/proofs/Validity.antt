-- Theorem 21, validity: a ballot that decides was proposed.
use mathlib.Core.Path.{◌≡◌, ap, ◌∙◌}
use Prim.Native.Nat.{ℕ}
use lib.Dec.{T}
use Rattle.base.specs.Tests.{◌∈◌}
use Rattle.base.specs.Ballots.{value_of}
use Rattle.graph.specs.LearnerGraph.{LearnerGraph}
use Rattle.protocol.specs.Message.{Message, is_proposal, tran, ballot, value}
use Rattle.protocol.specs.Equations.{Peopled}
use Rattle.protocol.specs.Theorems.{Validity}
use Rattle.protocol.proofs.Message.{tran_closed}
use Rattle.protocol.proofs.Ballot.{Proposes, ballot_reached, ballot_proposal, proposal_in_1b}
use Rattle.protocol.proofs.Learners.{Backer, Learns, lrns_law}
use Rattle.protocol.proofs.Decides.{Voter, decides_law}

-- a 2a with a learner has a proposal of its ballot in its Tran
learnt_proposed : (G : LearnerGraph) (a : ℕ) → Peopled G a → (m : Message) → Learns G m a → Proposes m (ballot m)
learnt_proposed G a peopled m (two, (q, i, f)) = let (p, l, t) = peopled q i in backed (f p l t)
  where
    backed : {p : ℕ} → Backer G a m p → Proposes m (ballot m)
    backed (y, h, one, _, _, _) = let (z, k, t) = proposal_in_1b y one in ballot_reached m z (tran_closed m y z h k) t

pub validity : Validity
unfolding value
validity G a peopled K x dec = let (q, i, f) = (decides_law G K a x).0 dec in let (p, l, t) = peopled q i in voted (f p l t)
  where
    proposed_by : (m : Message) → m ∈ K → ballot m ≡ x → Proposes m (ballot m) → (m : Message) × (m ∈ K) × ((y : Message) × (y ∈ tran m) × T (is_proposal y) × (ballot y ≡ x) × (value y ≡ value_of x))
    proposed_by m k e (y, h, t, d) = let b : ballot y ≡ x = ballot_proposal y t ∙ d ∙ e in (m, k, (y, h, t, b, ap value_of b))

    voted : {p : ℕ} → Voter G K a x p → (m : Message) × (m ∈ K) × ((y : Message) × (y ∈ tran m) × T (is_proposal y) × (ballot y ≡ x) × (value y ≡ value_of x))
    voted (m, k, two, e, l, s) = proposed_by m k e (learnt_proposed G a peopled m ((lrns_law G m a).0 l))
