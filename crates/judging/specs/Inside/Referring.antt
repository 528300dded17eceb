-- What is known of an acceptor message once rows 11 and 12 are clear.
use Rattle.std.specs.Prelude.{◌≡◌, List, ℕ, ◌≤◌, ◌<◌, T, length}
use Rattle.base.specs.Tests.{◌∈◌}
use Rattle.round.specs.Round.{Round}
use Rattle.round.specs.Limits.{max_held}
use Rattle.round.specs.Holdings.{named}
use Rattle.round.specs.Handed.{place_fits}
use Rattle.round.specs.Delivery.{previous_place}
use Rattle.admission.specs.declared.rows.Vote.{Vote}
use Rattle.admission.specs.Inside.Votes.{refers_to}

-- places of held messages
abbrev pub Earlier : Round → List ℕ → Type 0
Earlier r places = (j : ℕ) → j ∈ places → j < r.held

-- v is what the round r holds of a message, or would hold of it
pub record Referring (r : Round) (v : Vote) : Type 0 where
  -- it refers to one message at least,
  pub least : 1 ≤ length (refers_to v)
  -- and to no more than there are places,
  pub most : length (refers_to v) ≤ max_held
  -- and each that it names is held;
  pub earlier : Earlier r (refers_to v)
  -- its previous message is none or held,
  pub placed : T (place_fits r v.previous)
  -- at the place that its id names
  pub lowest : v.previous ≡ previous_place r (named r v.previous)
