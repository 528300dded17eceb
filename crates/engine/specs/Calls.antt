-- What the calls on a round in a lent buffer answer, and each byte that they write. The layout of a round is that of roundbytes. A buffer that is too
-- short for a round is 17: in an opening after the rows of the file, in a delivery and a report before all else. A call that is turned down writes nothing.
use Rattle.std.specs.Prelude.{List, ℕ, ltb, length, Some, None, Ok, Err}
use Rattle.base.specs.Tests.{pick}
use Rattle.base.specs.declared.refusal.Refusal.TheVariants.{Argument}
use Rattle.digest.specs.Sha256.{sha256}
use Rattle.message.specs.Writer.{fronted}
use Rattle.round.specs.Round.{Round}
use Rattle.round.specs.Outcomes.{Opening, Outcome, Reporting}
use Rattle.round.specs.Opening.{opened}
use Rattle.round.specs.Delivery.{delivered, replied}
use Rattle.round.specs.Report.{reported}
use Rattle.roundbytes.specs.Layout.{round_len, round_bytes, round_in}
use Rattle.roundbytes.specs.Opening.{opened_to}

-- ---- opening: the round at the front of the buffer, or all as it was
-- "A round opens from a graph file (checked first; 17 comes after 7)": what the file and the own number are refused for, and then the short buffer
abbrev pub opening_in : Opening → List ℕ → Opening
opening_in (Ok tt) buffer = pick (ltb (length buffer) round_len) (Err Argument) (Ok tt)
opening_in (Err e) buffer = Err e

unfoldable pub open_answer : List ℕ → ℕ → ℕ → ℕ → List ℕ → Opening
open_answer file house bay own buffer = opening_in (opened file house bay own).answer buffer

unfoldable pub open_to : List ℕ → ℕ → ℕ → ℕ → List ℕ → List ℕ
open_to file house bay own buffer = opened_to (open_answer file house bay own buffer) (opened file house bay own).round buffer

-- ---- delivering a message: the next round at the front of the buffer, or all as it was
abbrev pub delivered_to : Outcome → Round → List ℕ → List ℕ
delivered_to (Ok None) r buffer = fronted (round_bytes r) buffer
delivered_to (Ok (Some n)) r buffer = fronted (round_bytes r) buffer
delivered_to (Err e) r buffer = buffer

unfoldable pub deliver_answer : List ℕ → List ℕ → List ℕ → Outcome
deliver_answer round message reply =
    pick (ltb (length round) round_len) (Err Argument) (delivered sha256 (round_in round) message reply).outcome

unfoldable pub deliver_to : List ℕ → List ℕ → List ℕ → List ℕ
deliver_to round message reply =
    pick (ltb (length round) round_len) round
    (delivered_to (delivered sha256 (round_in round) message reply).outcome (delivered sha256 (round_in round) message reply).round round)

-- the reply buffer afterwards
unfoldable pub reply_to : List ℕ → List ℕ → List ℕ → List ℕ
reply_to round message reply = pick (ltb (length round) round_len) reply (replied sha256 (round_in round) message reply)

-- ---- the report for a learner
unfoldable pub report_answer : List ℕ → ℕ → Reporting
report_answer round learner = pick (ltb (length round) round_len) (Err Argument) (reported (round_in round) learner)
