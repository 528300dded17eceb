use mathlib.Core.Path.{◌≡◌, ◌∙◌}
use borrow.Author.Rules.{rules}
use Rattle.std.specs.Prelude.{Err}
use Rattle.engine.proofs.Opening.{opens, opens_short, opens_not}
use Rattle.engine.proofs.open.Goals as goal

pub returns-in_err-graph : goal.returns-in_err-graph
returns-in_err-graph c =
    let a = c.args in
    let f = c.read in
    let e = c.in_err-graph.field-0.0 in
    let d : c.from_residual.result ≡ Err e = search rules in
    let x = opens_not a.file.now a.house a.bay a.own a.s.now f.result f.ensures e c.in_err-graph.was in
    (d ∙ x.0, x.1)

pub returns-then-s-lt-ROUND_LEN : goal.returns-then-s-lt-ROUND_LEN
returns-then-s-lt-ROUND_LEN c =
    let a = c.args in
    let f = c.read in
    opens_short a.file.now a.house a.bay a.own a.s.now f.result f.ensures c.if-s-lt-ROUND_LEN.true c.in_ok-graph.graph c.in_ok-graph.was

pub returns : goal.returns
returns c =
    let a = c.args in
    let f = c.read in
    let x = c.start in
    opens a.file.now a.house a.bay a.own a.s.now f.result f.ensures c.if-s-lt-ROUND_LEN.false c.in_ok-graph.graph c.in_ok-graph.was x.result x.new.s x.ensures.answer x.ensures.bytes
