-- "Hold it in one byte inside the round, and leave no wider place there": the layout as a table, from which the checker computes how wide each place is.
use Rattle.std.specs.Prelude.{Bool, true, false, ◌&&◌, List, [], ◌∷◌, map, ◌≡◌, ℕ, ◌+◌, ◌*◌, ◌≤◌, eqb, length}
use Rattle.base.specs.Tests.{all, filter}
use Rattle.graph.specs.Limits.{lists, max_masks}
use Rattle.message.specs.Layout.{id_len}
use Rattle.round.specs.Round.{Round}
use Rattle.round.specs.Limits.{max_held}
use Rattle.roundbytes.specs.Layout.{list_counts_at, masks_at, house_at, bay_at, own_at, held_at, last_at, ids_at, kinds_at, signers_at, ballots_at, previous_at, counts_at, references_at, known_at, recent_at, round_len, numbers, round_in}

-- what an entry of a field is
pub data Holds : Type 0 where
  a_place : Holds
  a_count : Holds
  a_number : Holds
  a_mask : Holds
  an_id_byte : Holds
  a_kind : Holds
  a_signer : Holds
  a_ballot : Holds
  a_flag : Holds

abbrev pub is_place : Holds → Bool
is_place a_place = true
is_place a_count = false
is_place a_number = false
is_place a_mask = false
is_place an_id_byte = false
is_place a_kind = false
is_place a_signer = false
is_place a_ballot = false
is_place a_flag = false

-- a field: what its entries are, which of a round they are, where the first one stands, how many there are, and how many bytes each takes
pub record Field : Type 0 where
  pub holds : Holds
  pub of : Round → List ℕ
  pub at : ℕ
  pub entries : ℕ
  pub width : ℕ

abbrev pub field : Holds → (Round → List ℕ) → ℕ → ℕ → ℕ → Field
field holds of at entries width = record { holds = holds; of = of; at = at; entries = entries; width = width }

-- ---- the fields of a round
abbrev pub last_field : Field
last_field = field a_place (λ r. r.last ∷ []) last_at 1 1

abbrev pub previous_field : Field
previous_field = field a_place (λ r. r.previous) previous_at max_held 1

abbrev pub references_field : Field
references_field = field a_place (λ r. r.references) references_at (max_held * max_held) 1

abbrev pub fields : List Field
fields =
    field a_count (λ r. r.graph.acceptors ∷ []) 0 1 1
    ∷ field a_count (λ r. r.graph.learners ∷ []) 1 1 1
    ∷ field a_count (λ r. r.graph.counts) list_counts_at lists 1
    ∷ field a_mask (λ r. r.graph.masks) masks_at (max_masks * lists) 4
    ∷ field a_number (λ r. r.house ∷ []) house_at 1 2
    ∷ field a_number (λ r. r.bay ∷ []) bay_at 1 2
    ∷ field a_number (λ r. r.own ∷ []) own_at 1 2
    ∷ field a_count (λ r. r.held ∷ []) held_at 1 1
    ∷ last_field
    ∷ field an_id_byte (λ r. r.ids) ids_at (id_len * max_held) 1
    ∷ field a_kind (λ r. r.kinds) kinds_at max_held 1
    ∷ field a_signer (λ r. r.signers) signers_at max_held 1
    ∷ field a_ballot (λ r. r.ballots) ballots_at max_held 8
    ∷ previous_field
    ∷ field a_count (λ r. r.counts) counts_at max_held 1
    ∷ references_field
    ∷ field a_flag (λ r. r.known) known_at max_held 1
    ∷ field a_flag (λ r. r.recent) recent_at max_held 1
    ∷ []

-- ---- what holds of them; proofs/ByteWidths proves each under the same name
-- the table is the layout: a field of the round in bytes is so many numbers, of so many bytes each, from where its line says,
abbrev pub FieldsAreTheLayout : Type 0
FieldsAreTheLayout = (b : List ℕ) → round_len ≤ length b → map (λ f. f.of (round_in b)) fields ≡ map (λ f. numbers f.width f.entries b f.at) fields

-- and every byte of a round is in one line: the first begins at 0, each other where the one before it ends, and the last ends with the round
unfoldable pub adjoin : ℕ → List Field → Bool
adjoin at [] = eqb at round_len
adjoin at (f ∷ l) = eqb f.at at && adjoin (at + f.width * f.entries) l

abbrev pub FieldsAreWhole : Type 0
FieldsAreWhole = adjoin 0 fields ≡ true

-- last sent, previous and references hold places, and no other field does; each place has one byte
abbrev pub PlacesInOneByte : Type 0
PlacesInOneByte = (filter (λ f. is_place f.holds) fields ≡ last_field ∷ previous_field ∷ references_field ∷ [])
    × (all (λ f. eqb f.width 1) (last_field ∷ previous_field ∷ references_field ∷ []) ≡ true)
