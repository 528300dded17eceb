use mathlib.Core.Path.{◌≡◌}
use Rattle.std.proofs.Common.{Err}
use Rattle.graphfile.proofs.Reader.{rows_none, rows_no, rows_filled, rows_all}
use borrow.Author.Rules.{rules}
use native.Mathlib.Omega.{arith}
use Rattle.graphfile.proofs.file.read_rows.Goals as goal

pub loop-a-init : goal.loop-a-init
loop-a-init c = rows_none c.args.s.now c.args.at c.args.graph.now c.requires.0.inside

pub returns-in_err-here : goal.returns-in_err-here
returns-in_err-here c =
    let a = c.args in
    let g = a.graph.now in
    let l = c.loop-a in
    let t = c.loop-a-test.true in
    let e = c.from-a-end.ensures in
    let x = c.in_err-here.field-0.0 in
    let d : c.from_residual.result ≡ Err x = search rules in
    rows_no a.s.now a.at g l.here l.a l.graph l.invariant c.read_row.result c.from_residual.result x c.read_row.new.graph c.read_row.new.graph (omega arith) c.read_row.ensures c.in_err-here.was d

pub loop-a-preserved : goal.loop-a-preserved
loop-a-preserved c =
    let a = c.args in
    let g = a.graph.now in
    let l = c.loop-a in
    let t = c.loop-a-test.true in
    let e = c.from-a-end.ensures in
    rows_filled a.s.now a.at g l.here l.a l.graph l.invariant c.read_row.result c.in_ok-here.here c.read_row.new.graph (omega arith) c.read_row.ensures c.in_ok-here.was

pub returns : goal.returns
returns c =
    let a = c.args in
    let g = a.graph.now in
    let l = c.loop-a in
    let t = c.loop-a-test.false in
    let e = c.from-a-end.ensures in
    rows_all a.s.now a.at g l.here l.a l.graph l.invariant (omega arith)
