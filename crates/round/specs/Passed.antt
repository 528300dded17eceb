-- What holds of every round that passes 17, and so of every round that a call looks at, whether an opening led to it or not; as propositions,
-- and proofs/ proves each under the same name.
use Rattle.std.specs.Prelude.{◌≡◌, ◌↔◌, List, ℕ, ◌<◌, T, Ok}
use Rattle.protocol.specs.Ids.{Id}
use Rattle.protocol.specs.Table.{Ordered, tree}
use Rattle.protocol.specs.Report.{decides, Verdict}
use Rattle.protocol.specs.Equations.{Says, Peopled}
use Rattle.round.specs.Round.{Round}
use Rattle.round.specs.Holdings.{graph_of, record_at, table_of, known_messages}
use Rattle.round.specs.Handed.{fits}
use Rattle.round.specs.Rows.{message_of}
use Rattle.round.specs.Report.{told}
use Rattle.round.specs.Answers.{page_of, reported_number, reported_page}
use Rattle.round.specs.Lists.{Call, last_round}
use Rattle.round.specs.Premises.{IdRule, Starts}

-- ---- the messages that it holds
-- references are to earlier places
abbrev pub PassedIsOrdered : Type 0
PassedIsOrdered = (r : Round) → T (fits r) → Ordered (table_of r)

-- so the message of a held place is its record over the messages of the places that it refers to: neither the number that ties the knot of `tree`
-- nor what a table gives past its end matters
abbrev pub PassedHoldsTrees : Type 0
PassedHoldsTrees = (r : Round) → T (fits r) → (p : ℕ) → p < r.held → tree (table_of r) p ≡ message_of r (record_at r p)

-- ---- its report. "A ballot decides for a if the signers of known 2as with that ballot and a in lrns are a quorum of a. Undecided: no ballot decides.
-- Decided: all that do carry one value; it gives the least such ballot. Split: they carry two or more values; it gives the least such ballot and the
-- least of another value."
abbrev pub SaysOf : Round → ℕ → Verdict → Type 0
SaysOf r a v = Says (λ x. T (decides (graph_of r) (known_messages r) a x)) v

-- the report for a is not turned down, and shows a verdict exactly if the ballots that decide are as the verdict says
pub record ShowsWhatIs (r : Round) (a : ℕ) : Type 0 where
  pub taken : reported_number r a ≡ 0
  pub shows : (v : Verdict) → (reported_page r a ≡ page_of (Ok (told v))) ↔ SaysOf r a v

-- so it is where each listed quorum of a names an acceptor,
abbrev pub ReportSays : Type 0
ReportSays = (r : Round) (a : ℕ) → T (fits r) → a < r.graph.learners → Peopled (graph_of r) a → ShowsWhatIs r a

-- which each does in a graph that an opening accepts,
abbrev pub OpenedIsPeopled : Type 0
OpenedIsPeopled = (file : List ℕ) (house bay own : ℕ) (r : Round) → Starts file house bay own r → (a : ℕ) → a < r.graph.learners → Peopled (graph_of r) a

-- and so in every round reached from an opening
abbrev pub ReportSaysOverLists : Type 0
ReportSaysOverLists = (H : List ℕ → Id) → IdRule H → (file : List ℕ) (house bay own : ℕ) (r : Round) → Starts file house bay own r
    → (l : List Call) (a : ℕ) → a < r.graph.learners → ShowsWhatIs (last_round H r l) a
