use Rattle.meaning.proofs.Giving.{given_of}
use Rattle.judging.proofs.verdict.verdict_for.Goals as goal

pub work_out-requires : goal.work_out-requires
work_out-requires c =
    let a = c.args in
    let pre = c.requires in
    given_of a.s.now a.graph.now pre.0.long pre.1.0 pre.0.fit

pub report_for-requires : goal.report_for-requires
report_for-requires c =
    let a = c.args in
    let pre = c.requires in
    let given = given_of a.s.now a.graph.now pre.0.long pre.1.0 pre.0.fit in
    (record { graphed = given.graphed; few = given.fit.held; marked = c.work_out.ensures.marked }, (pre.1.1, given.learners))
