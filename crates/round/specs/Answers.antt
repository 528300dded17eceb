-- What each answer of a call on a round is in numbers and values. The promises, the starred cases and the C calls all read answers by these definitions.
use Rattle.std.specs.Prelude.{Bool, ◌||◌, List, ℕ, ◌+◌, ◌-◌, eqb, leb, Some, None, Ok, Err}
use Rattle.base.specs.Refusals.{number_of}
use Rattle.protocol.specs.Ids.{Id}
use Rattle.round.specs.Round.{Round}
use Rattle.round.specs.Outcomes.{Opening, Outcome, Reporting}
use Rattle.round.specs.declared.Report.TheVariants as answer
use Rattle.round.specs.Delivery.{delivered}
use Rattle.round.specs.Report.{reported}

-- ---- an opening: 0, or the number of the row that turns it down
abbrev pub opening_number : Opening → ℕ
opening_number (Ok tt) = 0
opening_number (Err e) = number_of e

-- ---- a delivery: 0 where nothing is sent, 256 and the length of the reply where there is one, or the number of the row
abbrev pub with_reply : ℕ
with_reply = 256

abbrev pub outcome_number : Outcome → ℕ
outcome_number (Ok None) = 0
outcome_number (Ok (Some n)) = with_reply + n
outcome_number (Err e) = number_of e

-- there is a reply, and so many bytes of it
abbrev pub has_reply : ℕ → Bool
has_reply n = leb with_reply n

abbrev pub reply_size : ℕ → ℕ
reply_size n = n - with_reply

-- the call was not turned down
abbrev pub is_taken : ℕ → Bool
is_taken n = eqb n 0 || has_reply n

-- ---- a report: 0, or the number of the row
abbrev pub report_number : Reporting → ℕ
report_number (Ok answer.Undecided) = 0
report_number (Ok (answer.Decided x)) = 0
report_number (Ok (answer.Split x y)) = 0
report_number (Err e) = number_of e

-- and where it is 0, a page. Its states:
abbrev pub undecided_state : ℕ
undecided_state = 0

abbrev pub decided_state : ℕ
decided_state = 1

abbrev pub split_state : ℕ
split_state = 2

pub record Page : Type 0 where
  pub state : ℕ
  -- decided or split: "the least such ballot"; otherwise 0
  pub least : ℕ
  -- split: "the least of another value"; otherwise 0
  pub other : ℕ

abbrev pub page : ℕ → ℕ → ℕ → Page
page state least other = record { state = state; least = least; other = other }

-- for a refusal, whose number is not 0, a page that nobody reads stands in
abbrev pub page_of : Reporting → Page
page_of (Ok answer.Undecided) = page undecided_state 0 0
page_of (Ok (answer.Decided x)) = page decided_state x 0
page_of (Ok (answer.Split x y)) = page split_state x y
page_of (Err e) = page undecided_state 0 0

-- ---- of a call on the round r
abbrev pub delivery_number : (List ℕ → Id) → Round → List ℕ → List ℕ → ℕ
delivery_number H r b buffer = outcome_number (delivered H r b buffer).outcome

abbrev pub reported_number : Round → ℕ → ℕ
reported_number r a = report_number (reported r a)

abbrev pub reported_page : Round → ℕ → Page
reported_page r a = page_of (reported r a)
