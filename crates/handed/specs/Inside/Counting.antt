-- What is asked where the lists of a round's graph are counted, one by one.
use Rattle.std.specs.Prelude.{◌≡◌, List, ℕ, ◌≤◌, ◌<◌, length}
use Rattle.graph.specs.Limits.{lists}
use Rattle.graph.specs.Memory.{triangle}
use Rattle.roundbytes.specs.Layout.{round_len, round_in}

-- a round stands in the bytes s, and k is one of the lists of its graph
pub record Counted (s : List ℕ) (learners pairs k : ℕ) : Type 0 where
  -- the bytes are enough for a round,
  pub long : round_len ≤ length s
  -- k is one of all lists,
  pub list : k < lists
  -- the graph has so many learners,
  pub read : learners ≡ (round_in s).graph.learners
  -- and so many pairs of them,
  pub all_pairs : pairs ≡ triangle learners
  -- which fit one byte
  pub few : pairs < 256
