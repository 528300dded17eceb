-- What the questions over a round and its notes ask of a walk over the places.
use Rattle.std.specs.Prelude.{Bool, ℕ, ◌≤◌}
use Rattle.places.specs.declared.Places.{Places}
use Rattle.places.specs.Inside.PlaceSets.{Covers}
use Rattle.round.specs.Limits.{max_held}

-- of n places and of a walk
pub record Covering (n : ℕ) (test : ℕ → Bool) (walk : Places) : Type 0 where
  -- a round has the n places,
  pub few : n ≤ max_held
  -- and the walk has each of them that passes the test
  pub covers : Covers n test walk.low walk.high
