-- How often an acceptor votes: what sections 2.5.2 and 3.7 of the report say of definition 23, as propositions. proofs/Votes proves each under the same
-- name.
use Rattle.std.specs.Prelude.{◌≡◌, ◌&&◌, List, [], ◌∷◌, ℕ, ◌≤◌, ◌<◌, T, eqb, length}
use Rattle.std.proofs.Math.Option.{some}
use Rattle.base.specs.Tests.{◌∈◌, filter, below}
use Rattle.graph.specs.LearnerGraph.{LearnerGraph}
use Rattle.protocol.specs.Message.{Message, id_of, previous, references, is1b, is2a, tran, ballot}
use Rattle.protocol.specs.Learners.{lrns}
use Rattle.protocol.specs.WellFormed.{formed2a, well_formed}
use Rattle.protocol.specs.Theorems.{Chained, Within}

-- ---- in one ballot lrns only grows: a 2a has every learner of a message of its ballot that it leads to
abbrev pub LearnersGrow : Type 0
LearnersGrow = (G : LearnerGraph) (u m : Message) → u ∈ tran m → T (is2a m) → ballot u ≡ ballot m → (a : ℕ) → T (lrns G u a) → T (lrns G m a)

-- how many learners are in lrns(m)
abbrev pub learners_of : LearnerGraph → Message → ℕ
learners_of G m = length (filter (lrns G m) (below G.learners))

-- ---- "When an acceptor sends two 2a-messages for the same ballot in a row, the later one must feature more learners than the first." The first is u,
-- the later one m.
abbrev pub MoreLearners : Type 0
MoreLearners = (G : LearnerGraph) (u m : Message) → u ∈ references m → previous m ≡ some (id_of u)
    → T (is2a u) → T (is2a m) → ballot u ≡ ballot m → T (formed2a G m) → learners_of G u < learners_of G m

-- ---- messages in a line, oldest first: each names the one before it as its previous message
abbrev pub LineFrom : Message → List Message → Type 0
LineFrom u [] = Unit {0}
LineFrom u (m ∷ l) = (previous m ≡ some (id_of u)) × LineFrom m l

abbrev pub Line : List Message → Type 0
Line [] = Unit {0}
Line (m ∷ l) = LineFrom m l

-- how many of them are 1bs, and how many 2as, of ballot x
abbrev pub count1b : ℕ → List Message → ℕ
count1b x l = length (filter (λ m. is1b m && eqb (ballot m) x) l)

abbrev pub count2a : ℕ → List Message → ℕ
count2a x l = length (filter (λ m. is2a m && eqb (ballot m) x) l)

-- for each ballot at most one 1b, and at most as many 2as as the graph has learners
abbrev pub Few : LearnerGraph → List Message → Type 0
Few G l = (x : ℕ) → (count1b x l ≤ 1) × (count2a x l ≤ G.learners)

-- ---- "The number of 2a-messages a correct acceptor sends in any ballot is bounded by the number of learners": so it is in every line of well-formed
-- messages of a set whose chains can be followed
abbrev pub FewVotes : Type 0
FewVotes = (G : LearnerGraph) (M : List Message) → Chained M → (l : List Message) → Within l M → Line l → ((m : Message) → m ∈ l → T (well_formed G m)) → Few G l
