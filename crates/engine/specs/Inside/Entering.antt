-- A message that is taken and enters a round: what each step needs, and what an entering gives.
use Rattle.std.specs.Prelude.{◌≡◌, not, List, ℕ, ◌≤◌, Option, T, length}
use Rattle.message.specs.Layout.{id_len}
use Rattle.protocol.specs.Ids.{Id}
use Rattle.protocol.specs.Table.{Held}
use Rattle.round.specs.Limits.{reply_len}
use Rattle.round.specs.Holdings.{place_of}
use Rattle.round.specs.Rows.{full}
use Rattle.round.specs.Delivery.{entered_in, entered_at}
use Rattle.roundbytes.specs.Layout.{round_in}
use Rattle.roundbytes.specs.Inside.Keeping.{Kept}
use Rattle.admission.specs.declared.rows.Vote.{Vote}
use Rattle.admission.specs.Inside.Finding.{place_found}
use Rattle.judging.specs.Inside.Standing.{Passes}
use Rattle.judging.specs.Inside.Referring.{Referring}

-- ---- what is asked
-- of the bytes s of a round, the id i of a message that is taken, and the reply buffer
pub record Takes (s : List ℕ) (i : Id) (buffer : List ℕ) : Type 0 where
  -- the round passes row 17,
  pub passes : Passes s
  -- the id is whole,
  pub id_bytes : length i ≡ id_len
  -- and the longest message fits the buffer
  pub long : reply_len ≤ length buffer

-- where rows 8 to 12 of an acceptor message are clear
pub record Settles (s : List ℕ) (i : Id) (f : Option ℕ) (v : Vote) (buffer : List ℕ) : Type 0 where
  -- what is asked of a message that is taken holds,
  pub takes : Takes s i buffer
  -- f is what was found for its id,
  pub found : place_found f ≡ place_of (round_in s) i
  -- and v what its other ids name
  pub refers : Referring (round_in s) v

-- where no row applies
pub record Enterable (s : List ℕ) (i : Id) (f : Option ℕ) : Type 0 where
  -- the round passes row 17,
  pub passes : Passes s
  -- the id is whole,
  pub id_bytes : length i ≡ id_len
  -- f is what was found for it,
  pub found : place_found f ≡ place_of (round_in s) i
  -- and there is room for the message
  pub free : T (not (full (round_in s) i))

-- ---- what an entering gives: the bytes s became t
pub record Enters (s t : List ℕ) (h : Held) (f : Option ℕ) (p : ℕ) : Type 0 where
  -- the message is held in the round,
  pub round : round_in t ≡ entered_in (round_in s) h (place_found f)
  -- p is its place,
  pub place : p ≡ entered_at (round_in s) (place_found f)
  -- and bytes behind the round stay
  pub kept : Kept s t
