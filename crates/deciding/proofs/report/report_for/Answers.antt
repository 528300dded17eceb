use mathlib.Core.Path.{sym, ◌∙◌}
use Rattle.protocol.proofs.Growth.{length_tabulate}
use Rattle.round.specs.Holdings.{record_at, table_of}
use Rattle.roundbytes.specs.Layout.{round_in}
use Rattle.notes.specs.Inside.Layout.{word_notes, byte_notes}
use Rattle.deciding.proofs.Verdicts.{undecided_told, split_told, decided_told}
use Rattle.deciding.proofs.report.report_for.Goals as goal

pub returns-in_default : goal.returns-in_default
returns-in_default c =
    let a = c.args in
    let r = round_in a.s.now in
    λ kn. undecided_told (table_of r) r (word_notes a.notes.now.words) (byte_notes a.notes.now.octets) kn a.a (length_tabulate r.held (record_at r)) c.requires.1.0 (sym c.least_deciding.ensures ∙ c.in_default.is)

pub returns-in-Some-least_deciding : goal.returns-in-Some-least_deciding
returns-in-Some-least_deciding c =
    let a = c.args in
    let r = round_in a.s.now in
    λ kn. split_told (table_of r) r (word_notes a.notes.now.words) (byte_notes a.notes.now.octets) kn a.a (length_tabulate r.held (record_at r)) c.requires.1.0
    c.in-Some.first (sym c.least_deciding.ensures ∙ c.in-Some.is) c.value.result c.value.ensures c.in-Some-least_deciding.second (sym c.least_deciding-2.ensures ∙ c.in-Some-least_deciding.is)

pub returns-in-None : goal.returns-in-None
returns-in-None c =
    let a = c.args in
    let r = round_in a.s.now in
    λ kn. decided_told (table_of r) r (word_notes a.notes.now.words) (byte_notes a.notes.now.octets) kn a.a (length_tabulate r.held (record_at r)) c.requires.1.0
    c.in-Some.first (sym c.least_deciding.ensures ∙ c.in-Some.is) c.value.result c.value.ensures (sym c.least_deciding-2.ensures ∙ c.in-None.is)
