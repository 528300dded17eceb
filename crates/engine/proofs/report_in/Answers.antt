use mathlib.Core.Path.{sym, ◌∙◌, ◌≡◌, ap}
use native.Mathlib.Omega.{arith}
use mathlib.Core.Bool.{true}
use Prim.Native.Nat.{ℕ}
use Rattle.std.specs.Prelude.{Ok}
use Rattle.round.proofs.OneByte.{unfit_reported}
use Rattle.roundbytes.specs.Layout.{round_in}
use Rattle.engine.proofs.Reporting.{refused_learner, reported_told}
use Rattle.round.specs.Handed.{fits}
use Rattle.round.specs.Report.{told}
use Rattle.round.specs.Holdings.{graph_of, known_messages}
use Rattle.protocol.specs.Report as paper
use Rattle.engine.proofs.report_in.Goals as goal

pub returns-then-not-fits : goal.returns-then-not-fits
returns-then-not-fits c = let a = c.args in sym (unfit_reported (round_in a.s.now) a.learner (sym c.fits.ensures ∙ c.if-not-fits.true))

pub returns-then-learners_of-number : goal.returns-then-learners_of-number
returns-then-learners_of-number c =
    let a = c.args in
    let r = round_in a.s.now in
    let n = c.from-number.ensures in
    let l = c.learners_of.ensures.0 in
    refused_learner r a.learner (sym c.fits.ensures ∙ c.if-not-fits.false) (omega (arith, c.if-learners_of-number.true))

pub returns : goal.returns
returns c =
    let a = c.args in
    let r = round_in a.s.now in
    let f : fits r ≡ true = sym c.fits.ensures ∙ c.if-not-fits.false in
    let n = c.from-number.ensures in
    let l = c.learners_of.ensures.0 in
    ap Ok (c.verdict_for.ensures ∙ ap (λ (k : ℕ). told (paper.report (graph_of r) (known_messages r) k)) n)
    ∙ reported_told r a.learner f (omega (arith, c.if-learners_of-number.false))
