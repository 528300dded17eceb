use Rattle.graph.specs.Memory.{view_of}
use Rattle.graphfile.specs.Writer.{rows_bytes}
use Rattle.graphfile.specs.Inside.Steps.{rows_of}
use Rattle.graphfile.proofs.Putting.{row_room, row_more, rows_all}
use borrow.Author.Rules.{rules}
use native.Mathlib.Omega.{arith}
use Rattle.graphfile.proofs.writer.put_rows.Goals as goal

pub put_row-here-requires : goal.put_row-here-requires
put_row-here-requires c =
    let a = c.args in
    let g = a.graph.now in
    let p = c.requires in
    let l = c.loop-a in
    let t = c.loop-a-test.true in
    let n = c.from-a-end.ensures in
    let e = l.invariant.0 in
    let m = row_room (view_of g).safes g.learners (rows_bytes (rows_of g)) a.at a.out.now l.a l.here l.out l.invariant.1 (omega arith) p.1.room in
    (omega arith, (p.0, record { fit = p.1.fit; room = omega arith }))

pub loop-a-preserved : goal.loop-a-preserved
loop-a-preserved c =
    let a = c.args in
    let g = a.graph.now in
    let l = c.loop-a in
    let q = c.put_row-here in
    let t = c.loop-a-test.true in
    let n = c.from-a-end.ensures in
    (search rules, row_more (view_of g).safes g.learners (rows_bytes (rows_of g)) a.at a.out.now l.a l.here l.out l.invariant.1 q.result q.new.out (omega arith) c.requires.1.room q.ensures)

pub returns : goal.returns
returns c =
    let a = c.args in
    let g = a.graph.now in
    let l = c.loop-a in
    let t = c.loop-a-test.false in
    let n = c.from-a-end.ensures in
    rows_all (view_of g).safes g.learners (rows_bytes (rows_of g)) a.at a.out.now l.a l.here l.out l.invariant.1 (omega arith)
