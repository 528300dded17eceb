use mathlib.Core.Path.{subst}
use Prim.Native.Nat.{ℕ}
use mathlib.Core.List.{List}
use Rattle.round.proofs.Fitting.{place_cases}
use Rattle.roundbytes.specs.Layout.{round_in}
use Rattle.base.specs.Tests.{◌∈◌}
use Rattle.meaning.specs.Inside.Notes.{Judged}
use Rattle.meaning.proofs.Giving.{given_of}
use Rattle.round.specs.Holdings.{graph_of, named}
use Rattle.round.specs.Rows.{message_of}
use Rattle.protocol.specs.Table.{says}
use Rattle.judging.proofs.rows.judge_vote.Goals as goal

pub judge-requires : goal.judge-requires
judge-requires c =
    let a = c.args in
    let p = c.requires in
    let refers = p.1 in
    record {
      given = given_of a.s.now a.graph.now p.0.passes.long p.0.read p.0.passes.fit;
      complete = p.0.worked;
      earlier = λ j k. refers.earlier j (subst (λ (y : List ℕ). j ∈ y) c.places.ensures k);
      linked = place_cases (round_in a.s.now) a.vote.now.previous refers.placed;
    }

pub returns : goal.returns
returns c =
    let a = c.args in
    let r = round_in a.s.now in
    let i = a.id.now in
    let v = a.vote.now in
    subst (λ (y : List ℕ). Judged (graph_of r) (message_of r (says i v.signer (named r v.previous) y)) c.judge.result) c.places.ensures (c.judge.ensures v.signer)
