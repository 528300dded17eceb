use Rattle.graphfile.proofs.Putting.{mask_room, mask_more, masks_all}
use borrow.Author.Rules.{rules}
use native.Mathlib.Omega.{arith}
use Rattle.graphfile.proofs.writer.put_list.Goals as goal

pub put16-requires : goal.put16-requires
put16-requires c =
    let a = c.args in
    let l = c.loop-m in
    let r = c.requires.1 in
    let n = mask_room a.list.now a.at a.out.now l.m-index l.here l.out l.invariant.1 (omega arith) r.room in
    (omega (arith, l.invariant.0), r.fit l.m-index)

pub loop-m-preserved : goal.loop-m-preserved
loop-m-preserved c =
    let a = c.args in
    let l = c.loop-m in
    (search rules, mask_more a.list.now a.at a.out.now l.m-index l.here l.out l.invariant.1 (omega arith) c.requires.1.room c.put16.new.buf c.put16.ensures)

pub returns : goal.returns
returns c =
    let a = c.args in
    let l = c.loop-m in
    masks_all a.list.now a.at a.out.now l.m-index l.here l.out l.invariant.1 (omega arith)
