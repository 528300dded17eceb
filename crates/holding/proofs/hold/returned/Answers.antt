use mathlib.Core.Path.{ap, ◌∙◌}
use native.Mathlib.Omega.{arith}
use Rattle.round.specs.Round.{Round}
use Rattle.round.specs.Delivery.{returned}
use Rattle.roundbytes.proofs.InPlace.{unwritten, one_next, round_then, of_parts}
use Rattle.holding.proofs.hold.returned.Goals as goal

pub returns : goal.returns
returns c = let a = c.args in
    let s = a.s.now in
    let n = c.requires.0 in
    let w = one_next s s c.put8.new.buf 10 a.place 1 n (unwritten s) c.put8.ensures c.requires.1 (omega arith) in
    record { held = round_then s c.put8.new.buf n w ∙ ap (λ (r : Round). returned r a.place) (of_parts s n); kept = w.kept }
