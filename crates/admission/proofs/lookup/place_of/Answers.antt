use mathlib.Core.Path.{◌∙◌, ap}
use lib.Seq.{take_all}
use native.Mathlib.Omega.{arith}
use Rattle.round.specs.Holdings.{place_of}
use Rattle.roundbytes.specs.Layout.{round_in}
use Rattle.message.specs.Layout.{id_len}
use Rattle.admission.proofs.lookup.place_of.Goals as goal

pub returns : goal.returns
returns c =
    let a = c.args in
    c.place_at.ensures ∙ ap (place_of (round_in a.s.now)) (take_all id_len a.id.now (omega arith))
