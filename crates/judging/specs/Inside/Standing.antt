-- What is asked of the bytes that a round stands in, and of what is lent beside them.
use Rattle.std.specs.Prelude.{◌≡◌, List, ℕ, ◌≤◌, T, length}
use Rattle.graph.specs.declared.Graph.{Graph}
use Rattle.notes.specs.declared.Notes.{Notes}
use Rattle.round.specs.Handed.{fits}
use Rattle.roundbytes.specs.Layout.{round_len, round_in}
use Rattle.derive.specs.Inside.Complete.{WorkedOut}

-- a round stands in the bytes s
pub record Passes (s : List ℕ) : Type 0 where
  -- they are enough for one,
  pub long : round_len ≤ length s
  -- and it passes row 17
  pub fit : T (fits (round_in s))

-- it was read and worked out
pub record AtHand (s : List ℕ) (graph : Graph) (notes : Notes) : Type 0 where
  -- the round passes row 17,
  pub passes : Passes s
  -- the graph is its graph,
  pub read : graph ≡ (round_in s).graph
  -- and the notes those of its messages
  pub worked : WorkedOut (round_in s) notes
