-- The report: 17, or what the known messages say.
use mathlib.Core.Path.{◌≡◌}
use mathlib.Core.Bool.{true}
use Prim.Native.Nat.{ℕ, ◌≤◌, ◌<◌}
use borrow.Author.Tests.{le-leb, lt-leb}
use Rattle.std.specs.Prelude.{Ok, Err}
use Rattle.base.specs.declared.refusal.Refusal.TheVariants.{Argument}
use Rattle.protocol.specs.Report.{report}
use Rattle.round.specs.Round.{Round}
use Rattle.round.specs.Holdings.{graph_of, known_messages}
use Rattle.round.specs.Handed.{fits}
use Rattle.round.specs.Report.{told, reported}

module _ (r : Round) (a : ℕ) where
  pub refused_learner : fits r ≡ true → r.graph.learners ≤ a → Err Argument ≡ reported r a
  unfolding reported
  refused_learner e h = simp (e, le-leb r.graph.learners a h)

  pub reported_told : fits r ≡ true → a < r.graph.learners → Ok (told (report (graph_of r) (known_messages r) a)) ≡ reported r a
  unfolding reported
  reported_told e h = simp (e, lt-leb r.graph.learners a h)
