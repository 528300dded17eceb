-- "A round opens from a graph file (checked first; 17 comes after 7), a house, a bay, and an acceptor number or none (listening only)."
use Rattle.std.specs.Prelude.{List, ℕ, ◌*◌, replicate, Result, Ok, Err}
use Rattle.base.specs.Tests.{pick}
use Rattle.base.specs.declared.refusal.Refusal.{Refusal}
use Rattle.base.specs.declared.refusal.Refusal.TheVariants.{Argument}
use Rattle.graph.specs.declared.Graph.{Graph}
use Rattle.graphfile.specs.Arrays.{reading_of, graph_of_held, nothing}
use Rattle.message.specs.Layout.{id_len}
use Rattle.round.specs.Round.{Round}
use Rattle.round.specs.Outcomes.{Opening}
use Rattle.round.specs.Limits.{max_held, no_place, own_allowed}

-- what an opening answers, and the round that it gives; a refused opening gives a round of zeros
pub record Opened : Type 0 where
  pub answer : Opening
  pub round : Round

-- a round that holds no message; `last` is 255 for none, and 0 in the round of zeros that a refusal hands out
abbrev pub empty_round : Graph → ℕ → ℕ → ℕ → ℕ → Round
empty_round g house bay own last =
    record {
      graph = g;
      house = house;
      bay = bay;
      own = own;
      held = 0;
      last = last;
      ids = replicate (id_len * max_held) 0;
      kinds = replicate max_held 0;
      signers = replicate max_held 0;
      ballots = replicate max_held 0;
      previous = replicate max_held 0;
      counts = replicate max_held 0;
      references = replicate (max_held * max_held) 0;
      known = replicate max_held 0;
      recent = replicate max_held 0;
    }

abbrev pub zeros : Round
zeros = empty_round (graph_of_held 0 0 nothing) 0 0 0 0

abbrev pub refused_opening : Refusal → Opened
refused_opening e = record { answer = Err e; round = zeros }

-- after the file: an acceptor number that the graph lacks is 17
abbrev pub opened_with : Result Graph Refusal → ℕ → ℕ → ℕ → Opened
opened_with (Ok g) house bay own =
    pick (own_allowed own g.acceptors)
    (record { answer = Ok tt; round = empty_round g house bay own no_place })
    (refused_opening Argument)
opened_with (Err e) house bay own = refused_opening e

-- What an opening answers, and the round that it gives.
unfoldable pub opened : List ℕ → ℕ → ℕ → ℕ → Opened
opened file house bay own = opened_with (reading_of file) house bay own
