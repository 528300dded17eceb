-- The report for a learner, over the known messages (protocol/specs/Report).
use Rattle.std.specs.Prelude.{not, ◌||◌, ℕ, leb, Ok, Err}
use Rattle.base.specs.Tests.{pick}
use Rattle.base.specs.declared.refusal.Refusal.TheVariants.{Argument}
use Rattle.protocol.specs.Report.{Verdict, undecided, decided, split, report}
use Rattle.round.specs.Round.{Round}
use Rattle.round.specs.Outcomes.{Reporting}
use Rattle.round.specs.declared.Report.{Report}
use Rattle.round.specs.declared.Report.TheVariants as answer
use Rattle.round.specs.Holdings.{graph_of, known_messages}
use Rattle.round.specs.Handed.{fits}

abbrev pub told : Verdict → Report
told undecided = answer.Undecided
told (decided x) = answer.Decided x
told (split x y) = answer.Split x y

-- 17 for a learner that the graph lacks, and for a round handed in that row 17 turns down
unfoldable pub reported : Round → ℕ → Reporting
reported r a = pick (not (fits r) || leb r.graph.learners a) (Err Argument) (Ok (told (report (graph_of r) (known_messages r) a)))
