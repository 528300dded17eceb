-- What the questions of this crate ask of the round, its graph and its notes.
use Rattle.std.specs.Prelude.{◌≡◌, List, ℕ, ◌≤◌, length}
use Rattle.graph.specs.declared.Graph.{Graph}
use Rattle.graph.specs.Limits.{mask_bits}
use Rattle.places.specs.declared.Places.{Places}
use Rattle.places.specs.Inside.PlaceSets.{Covers}
use Rattle.roundbytes.specs.Layout.{round_len, round_in}
use Rattle.notes.specs.declared.Notes.{Notes}
use Rattle.notes.specs.declared.Walks.{Walks}
use Rattle.notes.specs.Inside.Layout.{word_notes, byte_notes}
use Rattle.voting.specs.Inside.Votes.{is_vote, is_rival, is_backer}
use Rattle.round.specs.Limits.{max_held}

-- the bytes have room for a round, the graph is the round's, and a mask holds its acceptors
pub record Graphed (s : List ℕ) (graph : Graph) : Type 0 where
  -- the bytes have room for a round,
  pub long : round_len ≤ length s
  -- the graph is the round's,
  pub same : graph ≡ (round_in s).graph
  -- and a mask has room for its acceptors
  pub acceptors : graph.acceptors ≤ mask_bits

-- the walks have the places of all votes in the set, and of those that are of this signer and of another value than v
pub record Barring (s : List ℕ) (notes : Notes) (n : ℕ) (set : Places) (signer v : ℕ) (walks : Walks) : Type 0 where
  -- the bytes have room for a round,
  pub long : round_len ≤ length s
  -- which has the n places,
  pub few : n ≤ max_held
  -- the one walk has all votes in the set,
  pub votes : (b : ℕ) → Covers n (is_vote (byte_notes notes.octets) set.low set.high b) walks.votes.low walks.votes.high
  -- the other those of this signer and of another value
  pub rivals : (b : ℕ) → Covers n (is_rival (round_in s) (word_notes notes.words) (byte_notes notes.octets) set.low set.high signer v b) walks.rivals.low walks.rivals.high

-- the walk has the places of all 1bs in the set that are of this ballot and fresh for a learner
pub record Backing (s : List ℕ) (notes : Notes) (n : ℕ) (set : Places) (ballot : ℕ) (walk : Places) : Type 0 where
  -- the bytes have room for a round,
  pub long : round_len ≤ length s
  -- which has the n places,
  pub few : n ≤ max_held
  -- and the walk has the 1bs
  pub backers : (a : ℕ) → Covers n (is_backer (word_notes notes.words) (byte_notes notes.octets) set.low set.high a ballot) walk.low walk.high
