use mathlib.Core.Path.{◌≡◌, ap, sym, ◌∙◌}
use Rattle.std.proofs.Common.{Result, Ok, Err}
use Rattle.std.specs.Result.{result_and}
use Rattle.base.specs.declared.refusal.Refusal.{Refusal}
use Rattle.graphfile.proofs.Files.{held_file}
use borrow.Author.Rules.{rules}
use native.Mathlib.Omega.{arith}
use Rattle.graphfile.proofs.read.Goals as goal

pub judge-requires : goal.judge-requires
judge-requires c = let F = held_file c.args.file.now c.in_ok-graph.graph (sym c.read_contents.ensures ∙ c.in_ok-graph.was) in omega (arith, F.few)

pub returns-in_err-judge : goal.returns-in_err-judge
returns-in_err-judge c =
    let g = c.in_ok-graph.graph in
    let F = held_file c.args.file.now g (sym c.read_contents.ensures ∙ c.in_ok-graph.was) in
    let d : c.from_residual-in_err-judge.result ≡ Err c.in_err-judge.field-0.0 = search rules in
    d ∙ ap (λ (a : Result Unit Refusal). result_and a (Ok g)) (sym c.in_err-judge.was ∙ c.judge.ensures) ∙ F.judged

pub returns : goal.returns
returns c =
    let g = c.in_ok-graph.graph in
    let F = held_file c.args.file.now g (sym c.read_contents.ensures ∙ c.in_ok-graph.was) in
    ap (λ (a : Result Unit Refusal). result_and a (Ok g)) (sym c.in_ok-judge.was ∙ c.judge.ensures) ∙ F.judged
