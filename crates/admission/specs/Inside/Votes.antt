-- What a round holds of an acceptor message: its signer, and places for its previous id and its references.
use Rattle.std.specs.Prelude.{◌≡◌, List, ◌++◌, ℕ, ◌-◌, length, take, replicate}
use Rattle.std.proofs.Math.Option.{Option}
use Rattle.protocol.specs.Ids.{Id}
use Rattle.protocol.specs.Table.{Held, says}
use Rattle.round.specs.Round.{Round}
use Rattle.round.specs.Limits.{max_held}
use Rattle.round.specs.Holdings.{named}
use Rattle.round.specs.Delivery.{previous_place}
use Rattle.admission.specs.declared.rows.Vote.{Vote}
use Rattle.admission.specs.Inside.Finding.{places_of}

-- the places that it refers to
abbrev pub refers_to : Vote → List ℕ
refers_to v = take v.count v.places

-- places at the front of an array of as many as a round can hold, zeros behind them
abbrev pub filled : List ℕ → List ℕ
filled l = l ++ replicate (max_held - length l) 0

-- that of a signer that refers to these places
abbrev pub vote_of : ℕ → ℕ → List ℕ → Vote
vote_of signer previous l = record { signer = signer; previous = previous; count = length l; places = filled l }

-- the record of the message, which has the id i
abbrev pub record_of : Round → Id → Vote → Held
record_of r i v = says i v.signer (named r v.previous) (refers_to v)

-- v is what a message of this signer, with this previous id or none and with references to these ids, looks up in the round r
pub record Resolves (r : Round) (signer : ℕ) (previous : Option Id) (ids : List Id) (v : Vote) : Type 0 where
  -- its signer,
  pub signed : v.signer ≡ signer
  -- the place that its previous id names,
  pub back : v.previous ≡ previous_place r previous
  -- and those that its references name
  pub listed : refers_to v ≡ places_of r ids
