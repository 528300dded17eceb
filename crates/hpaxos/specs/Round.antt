-- The numbers that the C calls on a round in a lent buffer answer, and each byte that they write. What each call answers as a Result, and the round's bytes
-- afterwards, are definitions of the crate engine; each answer's number is one of round/specs/Answers.
use Rattle.std.specs.Prelude.{List, [], ◌∷◌, ◌++◌, ℕ, eqb, ltb, length}
use Rattle.base.specs.Tests.{pick}
use Rattle.base.specs.Bytes.{bytes}
use Rattle.base.specs.Refusals.{number_of}
use Rattle.base.specs.declared.refusal.Refusal.TheVariants.{Argument}
use Rattle.message.specs.Writer.{fronted}
use Rattle.round.specs.Outcomes.{Reporting}
use Rattle.round.specs.Answers.{opening_number, outcome_number, report_number, Page, page_of}
use Rattle.engine.specs.Calls as call

-- ---- opening; the buffer afterwards is as engine has it
abbrev pub open_answer : List ℕ → ℕ → ℕ → ℕ → List ℕ → ℕ
open_answer file house bay acceptor buffer = opening_number (call.open_answer file house bay acceptor buffer)

-- ---- delivering a message; the two buffers afterwards are as engine has them
abbrev pub deliver_answer : List ℕ → List ℕ → List ℕ → ℕ
deliver_answer round message reply = outcome_number (call.deliver_answer round message reply)

-- ---- the report for a learner
-- a page has 17 bytes: its state 1, and its two ballots of 8
abbrev pub page_bytes : Page → List ℕ
page_bytes p = (p.state ∷ []) ++ bytes 8 p.least ++ bytes 8 p.other

abbrev pub page_len : ℕ
page_len = 17

-- the buffer after a report: the page at its front where the number is 0, or all as it was
abbrev pub shown_in : Reporting → List ℕ → List ℕ
shown_in x buffer = pick (eqb (report_number x) 0) (fronted (page_bytes (page_of x)) buffer) buffer

-- a buffer that is too short for a page is 17 before all else
abbrev pub report_answer : List ℕ → ℕ → List ℕ → ℕ
report_answer round learner buffer = pick (ltb (length buffer) page_len) (number_of Argument) (report_number (call.report_answer round learner))

abbrev pub report_to : List ℕ → ℕ → List ℕ → List ℕ
report_to round learner buffer = pick (ltb (length buffer) page_len) buffer (shown_in (call.report_answer round learner) buffer)
