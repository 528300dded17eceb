-- Rows 14 to 16 of an acceptor message, as the definitions of a round answer their tests.
use Rattle.std.proofs.Math.Option.{Option}
use Rattle.base.specs.declared.refusal.Refusal.{Refusal}
use Rattle.order.specs.Inside.Rows.{form_row}
use Rattle.protocol.specs.Ids.{Id}
use Rattle.protocol.specs.Message.{Message}
use Rattle.protocol.specs.WellFormed.{formed1b, formed2a}
use Rattle.round.specs.Round.{Round}
use Rattle.round.specs.Holdings.{graph_of}
use Rattle.round.specs.Rows.{full}

-- the message with id i, which is m over what the round holds
abbrev pub sound_row : Round → Id → Message → Option Refusal
sound_row r i m = form_row (formed1b m) (formed2a (graph_of r) m) (full r i)
