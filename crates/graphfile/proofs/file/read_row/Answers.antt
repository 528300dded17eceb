use mathlib.Core.Path.{◌≡◌, ap, ◌∙◌, subst}
use Prim.Native.Nat.{ℕ, ◌-◌, ◌+◌}
use Rattle.std.proofs.Common.{Err}
use Rattle.graph.specs.Memory.{pair_list}
use Rattle.graphfile.proofs.Reader.{Filled, filled_none, filled_no, filled_more, filled_all}
use borrow.Author.Rules.{rules}
use native.Mathlib.Omega.{arith}
use Rattle.graphfile.proofs.file.read_row.Goals as goal

pub loop-b-init : goal.loop-b-init
loop-b-init c =
    let a = c.args in
    let g = a.graph.now in
    filled_none a.s.now 0 (g.learners - a.a) a.at a.a (a.a - a.a) (pair_list a.a) g c.requires.1.0.inside (omega arith)

pub returns-in_err-here : goal.returns-in_err-here
returns-in_err-here c =
    let a = c.args in
    let g = a.graph.now in
    let l = c.loop-b in
    let t = c.loop-b-test.true in
    let e = c.from-b-end.ensures in
    let h = l.auto.b in
    let x = c.in_err-here.field-0.0 in
    let d : c.from_residual.result ≡ Err x = search rules in
    filled_no a.s.now 0 (g.learners - a.a) a.at a.a (pair_list a.a) g l.here (l.b - a.a) l.graph l.invariant c.pair_list.result c.read_list.result c.from_residual.result x c.read_list.new.graph c.read_list.new.graph
    (omega arith) c.read_list.ensures c.in_err-here.was d

pub loop-b-preserved : goal.loop-b-preserved
loop-b-preserved c =
    let a = c.args in
    let g = a.graph.now in
    let l = c.loop-b in
    let t = c.loop-b-test.true in
    let e = c.from-b-end.ensures in
    let h = l.auto.b in
    let n : l.b - a.a + 1 ≡ l.b + 1 - a.a = omega arith in
    let m : l.b ≡ a.a + (l.b - a.a) = omega arith in
    subst (λ (j : ℕ). Filled a.s.now 0 (g.learners - a.a) a.at a.a (pair_list a.a) g c.in_ok-here.here j c.read_list.new.graph) n
    (filled_more a.s.now 0 (g.learners - a.a) a.at a.a (pair_list a.a) g l.here (l.b - a.a) l.graph l.invariant c.pair_list.result c.read_list.result c.in_ok-here.here c.read_list.new.graph
    (omega arith) (c.pair_list.ensures.0 ∙ ap (pair_list a.a) m) c.read_list.ensures c.in_ok-here.was)

pub returns : goal.returns
returns c =
    let a = c.args in
    let g = a.graph.now in
    let l = c.loop-b in
    let t = c.loop-b-test.false in
    let e = c.from-b-end.ensures in
    let h = l.auto.b in
    filled_all a.s.now 0 (g.learners - a.a) a.at a.a (pair_list a.a) g l.here (l.b - a.a) l.graph l.invariant (omega arith)
