-- What the promises ask for: an id rule, an opening that was not refused, a round that types can hold.
use Rattle.std.specs.Prelude.{◌≡◌, List, ℕ, ◌<◌, ◌*◌, ◌^◌, length, get_or}
use Rattle.digest.specs.Sha256.{sha256}
use Rattle.message.specs.Layout.{id_len}
use Rattle.protocol.specs.Ids.{Id}
use Rattle.round.specs.Round.{Round}
use Rattle.round.specs.Limits.{max_held}
use Rattle.round.specs.Opening.{opened}
use Rattle.round.specs.Answers.{opening_number}

-- an id is 32 bytes
pub record IdRule (H : List ℕ → Id) : Type 0 where
  pub size : (b : List ℕ) → length (H b) ≡ 32
  pub bytes : (b : List ℕ) (i : ℕ) → get_or (H b) i 0 < 256

-- so it is with SHA-256
abbrev pub Sha256IsIdRule : Type 0
Sha256IsIdRule = IdRule sha256

-- an opening that was not refused, of numbers that the call's types can hold
pub record Starts (file : List ℕ) (house bay own : ℕ) (r : Round) : Type 0 where
  pub opens : opening_number (opened file house bay own).answer ≡ 0
  pub gives : r ≡ (opened file house bay own).round
  pub house_fits : house < 256 ^ 2
  pub bay_fits : bay < 256 ^ 2

-- the numbers that the types of a round's fields can hold
pub record Typed (r : Round) : Type 0 where
  pub house_fits : r.house < 256 ^ 2
  pub bay_fits : r.bay < 256 ^ 2
  pub ids_size : length r.ids ≡ id_len * max_held
  pub kinds_size : length r.kinds ≡ max_held
  pub signers_size : length r.signers ≡ max_held
  pub ballots_size : length r.ballots ≡ max_held
  pub previous_size : length r.previous ≡ max_held
  pub counts_size : length r.counts ≡ max_held
  pub references_size : length r.references ≡ max_held * max_held
  pub known_size : length r.known ≡ max_held
  pub recent_size : length r.recent ≡ max_held
  pub id_bytes : (i : ℕ) → get_or r.ids i 0 < 256
