-- The three calls as the samples make them, with their answers as numbers that a sample can name.
use Rattle.std.specs.Prelude.{ℕ, zero, suc, ◌+◌, ◌%◌, ◌^◌, List, length, replicate, ◌==◌, nat_lt, slice_index}
use Rattle.base.specs.Tests.{pick}
use Rattle.round.specs.Outcomes.{Outcome, Reporting}
use Rattle.round.specs.Answers.{outcome_number, report_number, page_of}
use Rattle.round_samples.specs.declared.calls.Verdict.{Verdict}

-- what every byte of a reply buffer is before a delivery
abbrev pub blank : ℕ
blank = 9

unfoldable pub blanks : ℕ → List ℕ
blanks n = replicate n blank

-- a round's buffer before an opening
unfoldable pub zeros : ℕ → List ℕ
zeros n = replicate n 0

-- the number of a delivery's answer, in 64 bits
abbrev pub outcome_in64 : Outcome → ℕ
outcome_in64 o = outcome_number o % 2 ^ 64

-- a report's number and its page
abbrev pub verdict_of : Reporting → Verdict
verdict_of x = record { number = report_number x; state = (page_of x).state; least = (page_of x).least; other = (page_of x).other }

-- byte i of a reply buffer after a reply: the reply's own, and behind it what was there
abbrev pub left_by : List ℕ → ℕ → ℕ
left_by reply i = pick (nat_lt i (length reply)) (slice_index reply i) blank

-- how many of the first n bytes of a buffer are not as a reply leaves them
unfoldable pub differing_in : ℕ → List ℕ → List ℕ → ℕ
differing_in zero buffer reply = 0
differing_in (suc n) buffer reply = differing_in n buffer reply + pick (slice_index buffer n == left_by reply n) 0 1
