-- What a report asks of the bytes of a round, of its graph and of its notes.
use Rattle.std.specs.Prelude.{List, ℕ, ◌≤◌}
use Rattle.graph.specs.declared.Graph.{Graph}
use Rattle.round.specs.Limits.{max_held}
use Rattle.roundbytes.specs.Layout.{round_in}
use Rattle.notes.specs.declared.Notes.{Notes}
use Rattle.notes.specs.Inside.Layout.{word_notes, byte_notes}
use Rattle.notes.specs.Inside.Index.{Marks}
use Rattle.voting.specs.Inside.Asking.{Graphed}

-- the bytes hold a round, its graph is at hand, and the index of its notes has all its places
pub record Reporting (s : List ℕ) (graph : Graph) (notes : Notes) : Type 0 where
  -- the bytes have room, and the graph is the round's;
  pub graphed : Graphed s graph
  -- the round has no more places than there can be,
  pub few : (round_in s).held ≤ max_held
  -- and the index has them
  pub marked : Marks (round_in s).held (round_in s) (word_notes notes.words) (byte_notes notes.octets)
