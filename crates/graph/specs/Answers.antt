-- What a check of a graph answers: accepted, or the row that turns it down.
use Rattle.std.specs.Prelude.{ℕ, Result, Ok, Err}
use Rattle.base.specs.Tests.{pick}
use Rattle.base.specs.Refusals.{number_of}
use Rattle.base.specs.declared.refusal.Refusal.{Refusal}
use Rattle.base.specs.declared.refusal.Refusal.TheVariants.{NotValid, NotCondensed}
use Rattle.graph.specs.LearnerGraph.{LearnerGraph, valid, condensed}

-- row 6: "graph not valid", and then row 7: "graph not condensed"
abbrev pub graph_answer : LearnerGraph → Result Unit Refusal
graph_answer G = pick (valid G) (pick (condensed G) (Ok tt) (Err NotCondensed)) (Err NotValid)

-- The answer as a number: 0, or that of the row.
abbrev pub answer_number : Result Unit Refusal → ℕ
answer_number (Ok u) = 0
answer_number (Err r) = number_of r
