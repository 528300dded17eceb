-- What the look-ups ask of the bytes that a round stands in, and what they answer.
use Rattle.std.specs.Prelude.{◌≡◌, List, map, ℕ, ◌+◌, ◌*◌, ◌≤◌, ◌<◌, length, Option, None, Some}
use Rattle.std.proofs.Math.Option as maybe
use Rattle.message.specs.Layout.{id_len, references_at}
use Rattle.message.specs.declared.AcceptorMessage.{AcceptorMessage}
use Rattle.protocol.specs.Ids.{Id}
use Rattle.round.specs.Round.{Round}
use Rattle.round.specs.Limits.{max_held}
use Rattle.round.specs.Holdings.{place_of}
use Rattle.round.specs.Rows.{or_zero}
use Rattle.roundbytes.specs.Layout.{round_len, round_in}

-- ---- what is asked
-- a round stands in the bytes s
pub record Bounded (s : List ℕ) : Type 0 where
  -- they are enough for one,
  pub long : round_len ≤ length s
  -- and it holds no more messages than it has places
  pub most : (round_in s).held ≤ max_held

-- the references that an acceptor message counts stand in its bytes b
pub record Listed (b : List ℕ) (m : AcceptorMessage) : Type 0 where
  -- there are no more than a round has places,
  pub most : m.count ≤ max_held
  -- and the last of them ends where the bytes do, or before
  pub within : references_at m.previous + id_len * m.count ≤ length b

-- ---- what is answered: a place, or none
abbrev pub place_found : Option ℕ → maybe.Option ℕ
place_found None = maybe.none
place_found (Some p) = maybe.some p

-- a place that was found is that of a held message
abbrev pub Inside : Round → Option ℕ → Type 0
Inside r f = (p : ℕ) → f ≡ Some p → p < r.held

-- the places of some ids
abbrev pub places_of : Round → List Id → List ℕ
places_of r l = map (λ i. or_zero (place_of r i)) l
