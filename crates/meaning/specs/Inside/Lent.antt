-- What is asked of the bytes of a round, of its graph and of its notes.
use Rattle.std.specs.Prelude.{List, ℕ, ◌≤◌}
use Rattle.graph.specs.declared.Graph.{Graph}
use Rattle.graph.specs.Limits.{max_learners}
use Rattle.roundbytes.specs.Layout.{round_in}
use Rattle.notes.specs.declared.Notes.{Notes}
use Rattle.notes.specs.Inside.Layout.{word_notes, byte_notes}
use Rattle.notes.specs.Inside.Index.{Marks}
use Rattle.voting.specs.Inside.Asking.{Graphed}
use Rattle.meaning.specs.Inside.Records.{Fit}

-- the bytes hold a round whose places fit, and its graph is at hand
pub record Given (s : List ℕ) (graph : Graph) : Type 0 where
  -- the bytes have room, and the graph is the round's,
  pub graphed : Graphed s graph
  -- which has no more learners than there can be;
  pub learners : (round_in s).graph.learners ≤ max_learners
  -- and the held places fit
  pub fit : Fit (round_in s).held (round_in s)

-- and the first p places are in the index
pub record FiledTo (s : List ℕ) (graph : Graph) (notes : Notes) (p : ℕ) : Type 0 where
  -- the round and its graph are as the pass asks,
  pub given : Given s graph
  -- the places are held,
  pub within : p ≤ (round_in s).held
  -- and in the index
  pub marked : Marks p (round_in s) (word_notes notes.words) (byte_notes notes.octets)
