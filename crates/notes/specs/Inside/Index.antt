-- The index of the places: a set for each key that a message can be looked for by. Places with other signers, links or ballots may fall into one
-- set: a set only spares the walk over all places, and each place of it is still asked.
use Rattle.std.specs.Prelude.{List, ℕ, ◌+◌, ◌/◌, ◌%◌, ◌^◌, ◌<◌, T, get_or}
use Rattle.places.specs.Inside.PlaceSets.{in_set, Indexed, Grown}
use Rattle.round.specs.Round.{Round}
use Rattle.notes.specs.declared.Walks.{Walks}
use Rattle.notes.specs.Inside.Layout.{signer_keys, link_keys, ballot_keys, form_keys, link_keys_at, ballot_keys_at, form_keys_at, first_form, second_form, WordNotes, ByteNotes}
use Rattle.round.specs.Limits.{max_held}

-- ---- the key of a signer
abbrev pub signer_key : ℕ → ℕ
signer_key s = s % signer_keys

-- of a link, the name of the previous message, or none
abbrev pub link_key : ℕ → ℕ
link_key x = link_keys_at + x % link_keys

-- of a ballot, by its upper half
abbrev pub ballot_key : ℕ → ℕ
ballot_key x = ballot_keys_at + x / 2 ^ 32 % ballot_keys

-- of a form
abbrev pub form_key : ℕ → ℕ
form_key f = form_keys_at + f % form_keys

-- place j is in the set of a key
abbrev pub Filed : List ℕ → List ℕ → ℕ → ℕ → Type 0
Filed keyLow keyHigh k j = T (in_set (get_or keyLow k 0) (get_or keyHigh k 0) j)

-- ---- each of the first n places that forks with one before it is in the set
abbrev pub Marked : ℕ → List ℕ → List ℕ → ℕ → ℕ → Type 0
Marked n forkLow forkHigh low high = (j k : ℕ) → j < n → k < max_held → T (in_set (get_or forkLow j 0) (get_or forkHigh j 0) k) → T (in_set low high j)

-- the link of place j: the name of its previous message
abbrev pub link_at : Round → ByteNotes → ℕ → ℕ
link_at r y j = get_or y.names (get_or r.previous j 0) 0

-- each of the first n places is in the sets of its keys, and in the set of those that fork where it does
pub record Marks (n : ℕ) (r : Round) (x : WordNotes) (y : ByteNotes) : Type 0 where
  -- of its signer,
  pub by_signer : Indexed n (λ j. signer_key (get_or r.signers j 0)) x.keylow x.keyhigh
  -- of its link,
  pub by_link : Indexed n (λ j. link_key (link_at r y j)) x.keylow x.keyhigh
  -- of its ballot,
  pub by_ballot : Indexed n (λ j. ballot_key (get_or x.tops j 0)) x.keylow x.keyhigh
  -- and of its form
  pub by_form : Indexed n (λ j. form_key (get_or y.forms j 0)) x.keylow x.keyhigh
  -- where it forks with one before it, it is among those that do
  pub forked : Marked n x.forklow x.forkhigh x.forkedlow x.forkedhigh

-- place j is put into the sets of its keys, and no set loses a place
pub record Put (keyLow keyHigh keyLow' keyHigh' : List ℕ) (signer link ballot form j : ℕ) : Type 0 where
  -- no set loses a place,
  pub grown : Grown keyLow keyHigh keyLow' keyHigh'
  -- and it is in that of its signer,
  pub of_signer : Filed keyLow' keyHigh' (signer_key signer) j
  -- of its link,
  pub of_link : Filed keyLow' keyHigh' (link_key link) j
  -- of its ballot,
  pub of_ballot : Filed keyLow' keyHigh' (ballot_key ballot) j
  -- and of its form
  pub of_form : Filed keyLow' keyHigh' (form_key form) j

-- ---- a set has each place of (low, high) that is filed as a 1b and under the ballot
abbrev pub Backing : WordNotes → ℕ → ℕ → ℕ → ℕ → ℕ → Type 0
Backing x low high ballot setLow setHigh =
    (q : ℕ) → q < max_held → T (in_set low high q) → Filed x.keylow x.keyhigh (form_key first_form) q → Filed x.keylow x.keyhigh (ballot_key ballot) q
    → T (in_set setLow setHigh q)

-- ---- the places that are asked for a message which reaches the set (low, high), has this ballot, signer and link
pub record Walked (x : WordNotes) (low high ballot signer link : ℕ) (r : Walks) : Type 0 where
  -- those of its signer and link, which may fork with it
  pub forking : (q : ℕ) → q < max_held → Filed x.keylow x.keyhigh (signer_key signer) q → Filed x.keylow x.keyhigh (link_key link) q → T (in_set r.forks.low r.forks.high q)
  -- those that it reaches and that fork with one before them
  pub catching : (q : ℕ) → q < max_held → T (in_set low high q) → T (in_set x.forkedlow x.forkedhigh q) → T (in_set r.caught.low r.caught.high q)
  -- the 2as that it reaches
  pub voting : (q : ℕ) → q < max_held → T (in_set low high q) → Filed x.keylow x.keyhigh (form_key second_form) q → T (in_set r.votes.low r.votes.high q)
  -- those of them that are of its signer
  pub rivalling : (q : ℕ) → q < max_held → T (in_set low high q) → Filed x.keylow x.keyhigh (form_key second_form) q → Filed x.keylow x.keyhigh (signer_key signer) q → T (in_set r.rivals.low r.rivals.high q)
  -- the 1bs of its ballot that it reaches
  pub backing : Backing x low high ballot r.backers.low r.backers.high
