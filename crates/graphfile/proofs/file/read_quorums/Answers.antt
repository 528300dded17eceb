use mathlib.Core.Path.{◌≡◌, refl}
use Rattle.std.proofs.Common.{Err}
use Rattle.graphfile.proofs.Reader.{filled_none, filled_no, filled_more, filled_all}
use borrow.Author.Rules.{rules}
use native.Mathlib.Omega.{arith}
use Rattle.graphfile.proofs.file.read_quorums.Goals as goal

pub loop-a-init : goal.loop-a-init
loop-a-init c =
    let a = c.args in
    let g = a.graph.now in
    filled_none a.s.now 1 g.learners a.at 0 0 (λ x. x) g c.requires.0.inside refl

pub returns-in_err-here : goal.returns-in_err-here
returns-in_err-here c =
    let a = c.args in
    let g = a.graph.now in
    let l = c.loop-a in
    let t = c.loop-a-test.true in
    let e = c.from-a-end.ensures in
    let x = c.in_err-here.field-0.0 in
    let d : c.from_residual.result ≡ Err x = search rules in
    filled_no a.s.now 1 g.learners a.at 0 (λ x. x) g l.here l.a l.graph l.invariant l.a c.read_list.result c.from_residual.result x c.read_list.new.graph c.read_list.new.graph
    (omega arith) c.read_list.ensures c.in_err-here.was d

pub loop-a-preserved : goal.loop-a-preserved
loop-a-preserved c =
    let a = c.args in
    let g = a.graph.now in
    let l = c.loop-a in
    let t = c.loop-a-test.true in
    let e = c.from-a-end.ensures in
    filled_more a.s.now 1 g.learners a.at 0 (λ x. x) g l.here l.a l.graph l.invariant l.a c.read_list.result c.in_ok-here.here c.read_list.new.graph
    (omega arith) (omega arith) c.read_list.ensures c.in_ok-here.was

pub returns : goal.returns
returns c =
    let a = c.args in
    let g = a.graph.now in
    let l = c.loop-a in
    let t = c.loop-a-test.false in
    let e = c.from-a-end.ensures in
    filled_all a.s.now 1 g.learners a.at 0 (λ x. x) g l.here l.a l.graph l.invariant (omega arith)
