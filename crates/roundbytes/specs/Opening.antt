-- A buffer after an opening.
use Rattle.std.specs.Prelude.{List, ℕ, Ok, Err}
use Rattle.message.specs.Writer.{fronted}
use Rattle.round.specs.Round.{Round}
use Rattle.round.specs.Outcomes.{Opening}
use Rattle.roundbytes.specs.Layout.{round_bytes}

-- the round at its front, or all as it was
abbrev pub opened_to : Opening → Round → List ℕ → List ℕ
opened_to (Ok tt) r buffer = fronted (round_bytes r) buffer
opened_to (Err e) r buffer = buffer
