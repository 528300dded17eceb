-- What is asked where a message is put behind the others.
use Rattle.std.specs.Prelude.{◌≡◌, List, ℕ, ◌≤◌, ◌<◌, length}
use Rattle.message.specs.Layout.{id_len}
use Rattle.round.specs.Limits.{max_held}
use Rattle.roundbytes.specs.Layout.{round_len, round_in}

-- of the bytes s of a round, and of a message's id
pub record Free (s id : List ℕ) : Type 0 where
  -- the bytes are enough for a round,
  pub long : round_len ≤ length s
  -- which has a place left,
  pub room : (round_in s).held < max_held
  -- and the id is whole
  pub id_bytes : length id ≡ id_len
