use native.Mathlib.Omega.{arith}
use Rattle.meaning.proofs.Giving.{given_of}
use mathlib.Core.Path.{◌∙◌, ap, sym}
use Rattle.roundbytes.specs.Layout.{round_in}
use Rattle.admission.specs.Inside.Votes.{record_of}
use Rattle.judging.specs.Inside.Turning.{sound_row}
use Rattle.round.specs.Rows.{message_of}
use Rattle.order.specs.Inside.Rows.{row_of}
use Rattle.judging.proofs.Voting.{sound_free}
use Rattle.engine.specs.Inside.Entering.{Enterable}
use Rattle.base.specs.Bytes.{Octets}
use Rattle.engine.proofs.Entering.{vote_storable, answerable, graph_then, begun_then}
use Rattle.engine.proofs.settle.settle.Goals as goal

pub work_out-requires : goal.work_out-requires
work_out-requires c =
    let can = c.requires in
    let s = c.args.s.now in
    given_of s _ can.takes.passes.long c.graph_in-graph.ensures can.takes.passes.fit

pub process-requires : goal.process-requires
process-requires c =
    let a = c.args in
    let can = c.requires in
    let s = a.s.now in
    let r = round_in s in
    let i = a.id.now in
    let h = record_of r i a.vote.now in
    let row = sound_row r i (message_of r h) in
    let clear = sym c.sound_row.ensures ∙ ap row_of c.in_ok-sound_row.was in
    let may : Enterable s i a.found = record { passes = can.takes.passes; id_bytes = can.takes.id_bytes; found = can.found; free = sound_free r i (message_of r h) clear } in
    let octets : Octets s = λ j. omega (arith, c.slice_known-1.given j) in
    let store = vote_storable r i a.vote.now can.takes.id_bytes (λ j. omega (arith, c.type_inv.id j)) can.refers in
    let e = c.enter_vote-p in (
      answerable s octets i a.found may h store e.new.s e.result e.ensures a.reply.now can.takes.long,
      (
        graph_then s octets i a.found may h store e.new.s e.result e.ensures c.graph_in-graph.result c.graph_in-graph.ensures,
        begun_then s octets i a.found may h store e.new.s e.result e.ensures c.held_of-n.result c.held_of-n.ensures.0 _ c.work_out.ensures,
      ),
    )
