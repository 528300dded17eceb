-- What the calls on a round answer, or the row that turns them down.
use Rattle.std.specs.Prelude.{ℕ, Option, Result}
use Rattle.base.specs.declared.refusal.Refusal.{Refusal}
use Rattle.message.specs.declared.Message.{Message}
use Rattle.round.specs.declared.Report.{Report}

-- an opening
abbrev pub Opening : Type 0
Opening = Result Unit Refusal

-- a delivery: accepted with no reply, or with a reply of so many bytes
abbrev pub Outcome : Type 0
Outcome = Result (Option ℕ) Refusal

-- a report
abbrev pub Reporting : Type 0
Reporting = Result Report Refusal

-- and what is asked first of the bytes of a delivery: what they say
abbrev pub Reading : Type 0
Reading = Result Message Refusal
