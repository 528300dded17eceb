use native.Mathlib.Omega.{arith}
use Rattle.admission.proofs.Finding.{found_inside}
use Rattle.roundbytes.specs.Layout.{round_in}
use Rattle.round.proofs.Fitting.{fits_out}
use Rattle.engine.proofs.enter.enter_proposal.Goals as goal

pub returned-requires : goal.returned-requires
returned-requires c =
    let a = c.args in
    let can = c.requires in
    let p = found_inside (round_in a.s.now) a.id.now a.found can.found _ c.in-Some.is in
    (can.passes.long, omega (arith, (fits_out (round_in a.s.now) can.passes.fit).most))
