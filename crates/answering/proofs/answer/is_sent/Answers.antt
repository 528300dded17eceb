use Rattle.roundbytes.specs.Layout.{round_in}
use Rattle.answering.proofs.Replying.{sent_judged}
use Rattle.round.specs.Rows.{message_of}
use Rattle.admission.specs.Inside.Votes.{record_of}
use Rattle.answering.proofs.answer.is_sent.Goals as goal

pub returns : goal.returns
returns c =
    let a = c.args in
    let r = round_in a.s.now in
    sent_judged r (message_of r (record_of r a.id.now a.vote.now)) c.judge_vote-note.result c.judge_vote-note.ensures
