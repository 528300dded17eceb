-- When a ballot decides, and the report for a learner (document 01, "The report for a learner"; definition 19 of the report).
-- K is the list of the known messages.
use Rattle.std.specs.Prelude.{Bool, not, ◌&&◌, List, [], ◌∷◌, map, ℕ, min, eqb}
use Rattle.base.specs.Tests.{all, filter}
use Rattle.base.specs.Ballots.{value_of}
use Rattle.graph.specs.LearnerGraph.{LearnerGraph, is_quorum}
use Rattle.protocol.specs.Message.{Message, is2a, signers, ballot}
use Rattle.protocol.specs.Learners.{lrns}

-- ---- "A ballot decides for a if the signers of known 2as with that ballot and a in lrns are a quorum of a."
unfoldable pub votes : LearnerGraph → ℕ → ℕ → Message → Bool
votes G a x m = is2a m && eqb (ballot m) x && lrns G m a

unfoldable pub decides : LearnerGraph → List Message → ℕ → ℕ → Bool
decides G K a x = is_quorum G a (signers (filter (votes G a x) K))

-- ---- definition 19: the messages S are a decision for a. A ballot decides where there is one: `DecidesByDecision` (Equations).
unfoldable pub decision : LearnerGraph → ℕ → List Message → Bool
decision G a S = is_quorum G a (signers S) && all (λ x. all (λ y. is2a x && lrns G x a && eqb (ballot x) (ballot y)) S) S

-- ---- the ballots that decide, each of them the ballot of a known 2a. Where every listed quorum names an acceptor no other can decide, and
-- the report speaks of all ballots: `ReportSays` (Equations).
unfoldable pub deciding : LearnerGraph → List Message → ℕ → List ℕ
deciding G K a = filter (decides G K a) (map ballot (filter is2a K))

-- the least of x and the numbers l
unfoldable pub least : ℕ → List ℕ → ℕ
least x [] = x
least x (y ∷ l) = min x (least y l)

-- the ballots of l that carry another value than b
unfoldable pub others : ℕ → List ℕ → List ℕ
others b l = filter (λ x. not (eqb (value_of x) (value_of b))) l

-- ---- the report
pub data Verdict : Type 0 where
  undecided : Verdict
  decided : ℕ → Verdict
  split : ℕ → ℕ → Verdict

-- "Decided: all that do carry one value; it gives the least such ballot. Split: they carry two or more values; it gives the least such
-- ballot and the least of another value." Here b is the least, and the list holds those of another value.
unfoldable pub against : ℕ → List ℕ → Verdict
against b [] = decided b
against b (c ∷ l) = split b (least c l)

-- "Undecided: no ballot decides."
unfoldable pub verdict : List ℕ → Verdict
verdict [] = undecided
verdict (x ∷ l) = against (least x l) (others (least x l) (x ∷ l))

unfoldable pub report : LearnerGraph → List Message → ℕ → Verdict
report G K a = verdict (deciding G K a)
