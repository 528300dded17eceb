use mathlib.Core.Path.{subst}
use mathlib.Core.List.{List}
use Prim.Native.Nat.{ℕ}
use Rattle.graph.specs.Memory.{view_of}
use Rattle.graphfile.specs.Writer.{list_bytes, lists_bytes}
use Rattle.graphfile.specs.Inside.Steps.{PutIn, quorums_of}
use Rattle.graphfile.proofs.Putting.{list_asks, list_room, list_more, lists_all}
use borrow.Author.Rules.{rules}
use native.Mathlib.Omega.{arith}
use Rattle.graphfile.proofs.writer.put_quorums.Goals as goal

pub put_list-here-requires : goal.put_list-here-requires
put_list-here-requires c =
    let a = c.args in
    let g = a.graph.now in
    let p = c.requires.1 in
    let l = c.loop-a in
    let t = c.loop-a-test.true in
    let n = c.from-a-end.ensures in
    let e = l.invariant.0 in
    let m = list_room (view_of g).quorums g.learners (lists_bytes (quorums_of g)) a.at a.out.now l.a l.here l.out l.invariant.1 (omega arith) p.room in
    list_asks g l.a c.list.result.now l.out l.here c.list.ensures p.fit (omega arith)

pub loop-a-preserved : goal.loop-a-preserved
loop-a-preserved c =
    let a = c.args in
    let g = a.graph.now in
    let l = c.loop-a in
    let q = c.put_list-here in
    let t = c.loop-a-test.true in
    let n = c.from-a-end.ensures in
    let put = subst (λ (x : List ℕ). PutIn (list_bytes x) l.here q.result l.out q.new.out) c.list.ensures q.ensures in
    (search rules, list_more (view_of g).quorums g.learners (lists_bytes (quorums_of g)) a.at a.out.now l.a l.here l.out l.invariant.1 q.result q.new.out (omega arith) c.requires.1.room put)

pub returns : goal.returns
returns c =
    let a = c.args in
    let g = a.graph.now in
    let l = c.loop-a in
    let t = c.loop-a-test.false in
    let n = c.from-a-end.ensures in
    lists_all (view_of g).quorums g.learners (lists_bytes (quorums_of g)) a.at a.out.now l.a l.here l.out l.invariant.1 (omega arith)
