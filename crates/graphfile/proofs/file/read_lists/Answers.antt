use mathlib.Core.Path.{◌≡◌}
use Rattle.std.proofs.Common.{Err}
use Rattle.graphfile.proofs.Files.{quorums_no, quorums_end, quorums_kept, rows_no, lists_left, lists_whole}
use borrow.Author.Rules.{rules}
use native.Mathlib.Omega.{arith}
use Rattle.graphfile.proofs.file.read_lists.Goals as goal

pub returns-in_err-at : goal.returns-in_err-at
returns-in_err-at c =
    let a = c.args in
    let x = c.in_err-at.field-0.0 in
    let d : c.from_residual.result ≡ Err x = search rules in
    quorums_no a.s.now a.graph.now c.requires.0.inside c.read_quorums.result c.read_quorums.new.graph c.read_quorums.ensures c.from_residual.result x _ c.in_err-at.was d

pub read_rows-requires : goal.read_rows-requires
read_rows-requires c =
    let a = c.args in
    let p = c.requires.0 in
    let q = c.read_quorums in
    let e = quorums_end a.s.now a.graph.now p.inside q.result q.new.graph q.ensures c.in_ok-at.at c.in_ok-at.was in
    let (k, m) = quorums_kept a.s.now a.graph.now p.inside q.result q.new.graph q.ensures c.in_ok-at.at c.in_ok-at.was in
    (record { short = p.short; inside = e; acceptors = omega (arith, p.acceptors) }, omega (arith, c.requires.1))

pub returns-in_err-end : goal.returns-in_err-end
returns-in_err-end c =
    let a = c.args in
    let q = c.read_quorums in
    let r = c.read_rows in
    let x = c.in_err-end.field-0.0 in
    let d : c.from_residual-in_err-end.result ≡ Err x = search rules in
    rows_no a.s.now a.graph.now c.requires.0.inside q.result q.new.graph q.ensures c.in_ok-at.at c.in_ok-at.was r.result r.new.graph r.ensures c.from_residual-in_err-end.result x _ c.in_err-end.was d

pub returns-then-end-s : goal.returns-then-end-s
returns-then-end-s c =
    let a = c.args in
    let q = c.read_quorums in
    let r = c.read_rows in
    lists_left a.s.now a.graph.now c.requires.0.inside q.result q.new.graph q.ensures c.in_ok-at.at c.in_ok-at.was r.result r.new.graph r.ensures c.in_ok-end.end _ c.in_ok-end.was c.if-end-s.true

pub returns : goal.returns
returns c =
    let a = c.args in
    let q = c.read_quorums in
    let r = c.read_rows in
    lists_whole a.s.now a.graph.now c.requires.0.inside q.result q.new.graph q.ensures c.in_ok-at.at c.in_ok-at.was r.result r.new.graph r.ensures c.in_ok-end.end c.in_ok-end.was c.if-end-s.false
