-- Neighbours on the November text (protocol/specs/November). proofs/Demands proves each under the same name.
use Rattle.std.specs.Prelude.{◌≡◌, List, ◌++◌, ℕ, ◌<◌}
use Rattle.protocol.specs.Ids.{Id}
use Rattle.protocol.specs.Message.{caught}
use Rattle.protocol.specs.November.{caught_november}
use Rattle.protocol.specs.Table.{tree}
use Rattle.round.specs.Round.{Round}
use Rattle.round.specs.Holdings.{id_at, table_of}
use Rattle.round.specs.Lists.{Call, run, last_round, accepted, written}
use Rattle.round.specs.Premises.{IdRule, Starts}
use Rattle.round.specs.Demands.{NoCollision}

-- at every place, known or awaiting its return, and for every acceptor number, both texts give one answer
abbrev pub SameCaughtIn : Round → Type 0
SameCaughtIn r = (p a : ℕ) → p < r.held → caught_november (tree (table_of r) p) a ≡ caught (tree (table_of r) p) a

-- "for every message of every round reached from an opening, taken over acceptor messages, with no two different messages of one id, both texts catch
-- the same acceptors"
abbrev pub SameCaughtOverLists : Type 0
SameCaughtOverLists = (H : List ℕ → Id) → IdRule H → (file : List ℕ) (house bay own : ℕ) (r : Round) → Starts file house bay own r
    → (l : List Call) → NoCollision H (accepted (run H r l) ++ written (run H r l)) → SameCaughtIn (last_round H r l)

-- where two rounds hold a message with one id, at place p and at place q, the November text, read in the one, catches in it whom the report catches in
-- the other
abbrev pub OneCaughtIn : Round → Round → Type 0
OneCaughtIn r s = (p q : ℕ) → p < r.held → q < s.held → id_at r p ≡ id_at s q → (a : ℕ) → caught_november (tree (table_of r) p) a ≡ caught (tree (table_of s) q) a

-- "Growers on mixed sites may then rely on one list of caught controllers": so it is of two rounds of one house and bay, under whatever plans
abbrev pub OneCaughtList : Type 0
OneCaughtList = (H : List ℕ → Id) → IdRule H → (fileA fileB : List ℕ) (house bay ownA ownB : ℕ) (rA rB : Round)
    → Starts fileA house bay ownA rA → Starts fileB house bay ownB rB
    → (lA lB : List Call)
    → NoCollision H ((accepted (run H rA lA) ++ accepted (run H rB lB)) ++ (written (run H rA lA) ++ written (run H rB lB)))
    → OneCaughtIn (last_round H rA lA) (last_round H rB lB)
