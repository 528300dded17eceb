use mathlib.Core.Path.{ap, ◌∙◌, subst}
use mathlib.Core.List.{List}
use Prim.Native.Nat.{ℕ}
use Rattle.graph.specs.Memory.{list_of, pair_list, view_of}
use Rattle.graphfile.specs.Writer.{list_bytes, lists_bytes}
use Rattle.graphfile.specs.Inside.Steps.{PutIn, row_of}
use Rattle.graphfile.proofs.Putting.{list_asks, list_room, list_more, lists_all}
use borrow.Author.Rules.{rules}
use native.Mathlib.Omega.{arith}
use Rattle.graphfile.proofs.writer.put_row.Goals as goal

pub put_list-here-requires : goal.put_list-here-requires
put_list-here-requires c =
    let a = c.args in
    let g = a.graph.now in
    let p = c.requires.1.1 in
    let l = c.loop-b in
    let t = c.loop-b-test.true in
    let n = c.from-b-end.ensures in
    let e = l.invariant.0 in
    let m = list_room ((view_of g).safes a.a) g.learners (lists_bytes (row_of g a.a)) a.at a.out.now l.b l.here l.out l.invariant.1 (omega arith) p.room in
    list_asks g (pair_list a.a l.b) c.list.result.now l.out l.here (c.list.ensures ∙ ap (list_of g.counts g.masks) c.pair_list.ensures.0) p.fit (omega arith)

pub loop-b-preserved : goal.loop-b-preserved
loop-b-preserved c =
    let a = c.args in
    let g = a.graph.now in
    let l = c.loop-b in
    let q = c.put_list-here in
    let t = c.loop-b-test.true in
    let n = c.from-b-end.ensures in
    let put = subst (λ (x : List ℕ). PutIn (list_bytes x) l.here q.result l.out q.new.out) (c.list.ensures ∙ ap (list_of g.counts g.masks) c.pair_list.ensures.0) q.ensures in
    (search rules, list_more ((view_of g).safes a.a) g.learners (lists_bytes (row_of g a.a)) a.at a.out.now l.b l.here l.out l.invariant.1 q.result q.new.out (omega arith) c.requires.1.1.room put)

pub returns : goal.returns
returns c =
    let a = c.args in
    let g = a.graph.now in
    let l = c.loop-b in
    let t = c.loop-b-test.false in
    let n = c.from-b-end.ensures in
    lists_all ((view_of g).safes a.a) g.learners (lists_bytes (row_of g a.a)) a.at a.out.now l.b l.here l.out l.invariant.1 (omega arith)
