-- A round as bytes, for hosts that keep it in a buffer of their own: a fixed layout, every field in the order of the record Round, numbers
-- big-endian. Every string of that many bytes is a round.
use Rattle.std.specs.Prelude.{List, [], ◌∷◌, ◌++◌, ◌≡◌, ℕ, zero, suc, ◌+◌, ◌*◌, ◌^◌, ◌≤◌, ◌<◌, length, get_or, take}
use Rattle.base.specs.Bytes.{be, bytes, part, Octets}
use Rattle.graph.specs.declared.Graph.{Graph}
use Rattle.graph.specs.Limits.{lists, max_masks}
use Rattle.message.specs.Layout.{id_len}
use Rattle.round.specs.Round.{Round}
use Rattle.round.specs.Limits.{max_held}
use Rattle.round.specs.Premises.{Typed}

-- ---- where each field stands. The two bytes in front are the graph's acceptors and learners.
abbrev pub list_counts_at : ℕ
list_counts_at = 2

abbrev pub masks_at : ℕ
masks_at = list_counts_at + lists

abbrev pub house_at : ℕ
house_at = masks_at + 4 * (max_masks * lists)

abbrev pub bay_at : ℕ
bay_at = house_at + 2

abbrev pub own_at : ℕ
own_at = bay_at + 2

abbrev pub held_at : ℕ
held_at = own_at + 2

abbrev pub last_at : ℕ
last_at = held_at + 1

abbrev pub ids_at : ℕ
ids_at = last_at + 1

abbrev pub kinds_at : ℕ
kinds_at = ids_at + id_len * max_held

abbrev pub signers_at : ℕ
signers_at = kinds_at + max_held

abbrev pub ballots_at : ℕ
ballots_at = signers_at + max_held

abbrev pub previous_at : ℕ
previous_at = ballots_at + 8 * max_held

abbrev pub counts_at : ℕ
counts_at = previous_at + max_held

abbrev pub references_at : ℕ
references_at = counts_at + max_held

abbrev pub known_at : ℕ
known_at = references_at + max_held * max_held

abbrev pub recent_at : ℕ
recent_at = known_at + max_held

-- how many bytes a round takes: 23,734
abbrev pub round_len : ℕ
round_len = recent_at + max_held

-- ---- numbers of w bytes each, one behind the other
unfoldable pub words : ℕ → List ℕ → List ℕ
words w [] = []
words w (x ∷ l) = bytes w x ++ words w l

-- the n numbers of w bytes each in s from `at`
unfoldable pub numbers : ℕ → ℕ → List ℕ → ℕ → List ℕ
numbers w zero s at = []
numbers w (suc n) s at = numbers w n s at ++ (be w s (at + w * n) ∷ [])

-- ---- the bytes of a round
abbrev pub graph_bytes : Graph → List ℕ
graph_bytes g = (g.acceptors ∷ g.learners ∷ []) ++ g.counts ++ words 4 g.masks

abbrev pub number_bytes : ℕ → ℕ → ℕ → ℕ → ℕ → List ℕ
number_bytes house bay own held last = bytes 2 house ++ bytes 2 bay ++ bytes 2 own ++ (held ∷ last ∷ [])

abbrev pub round_bytes : Round → List ℕ
round_bytes r =
    graph_bytes r.graph ++ number_bytes r.house r.bay r.own r.held r.last ++ r.ids ++ r.kinds ++ r.signers ++ words 8 r.ballots
    ++ r.previous
    ++ r.counts
    ++ r.references
    ++ r.known
    ++ r.recent

-- ---- the round in bytes
abbrev pub graph_in : List ℕ → Graph
graph_in b = record { acceptors = get_or b 0 0; learners = get_or b 1 0; counts = part lists b list_counts_at; masks = numbers 4 (max_masks * lists) b masks_at }

-- shut, so that what is said of a round in bytes stays short; proofs/Fields says of each field where it stands
unfoldable pub round_in : List ℕ → Round
round_in b =
    record {
      graph = graph_in b;
      house = be 2 b house_at;
      bay = be 2 b bay_at;
      own = be 2 b own_at;
      held = get_or b held_at 0;
      last = get_or b last_at 0;
      ids = part (id_len * max_held) b ids_at;
      kinds = part max_held b kinds_at;
      signers = part max_held b signers_at;
      ballots = numbers 8 max_held b ballots_at;
      previous = part max_held b previous_at;
      counts = part max_held b counts_at;
      references = part (max_held * max_held) b references_at;
      known = part max_held b known_at;
      recent = part max_held b recent_at;
    }

-- ---- what the types of a round's fields give it: the sizes of its arrays,
pub record Sized (r : Round) : Type 0 where
  pub list_counts : length r.graph.counts ≡ lists
  pub masks : length r.graph.masks ≡ max_masks * lists
  pub ids : length r.ids ≡ id_len * max_held
  pub kinds : length r.kinds ≡ max_held
  pub signers : length r.signers ≡ max_held
  pub ballots : length r.ballots ≡ max_held
  pub previous : length r.previous ≡ max_held
  pub counts : length r.counts ≡ max_held
  pub references : length r.references ≡ max_held * max_held
  pub known : length r.known ≡ max_held
  pub recent : length r.recent ≡ max_held

-- and the numbers of more than one byte
pub record Laid (r : Round) : Type 0 where
  pub sized : Sized r
  pub mask_fits : (i : ℕ) → get_or r.graph.masks i 0 < 256 ^ 4
  pub house_fits : r.house < 256 ^ 2
  pub bay_fits : r.bay < 256 ^ 2
  pub own_fits : r.own < 256 ^ 2
  pub ballot_fits : (i : ℕ) → get_or r.ballots i 0 < 256 ^ 8

-- ---- what holds of the layout; proofs/RoundBytes proves the first two. What stands behind a round's own bytes does not matter.
-- a round that was written is read back
abbrev pub RoundReadsBack : Type 0
RoundReadsBack = (r : Round) (behind : List ℕ) → Laid r → round_in (round_bytes r ++ behind) ≡ r

-- a round that was read is written as the bytes that it was read from
abbrev pub BytesWrittenBack : Type 0
BytesWrittenBack = (b : List ℕ) → Octets b → round_len ≤ length b → round_bytes (round_in b) ≡ take round_len b

-- every string of bytes that is long enough is a round whose numbers are those that its types can hold: what is promised of such rounds holds of bytes.
-- proofs/Typing proves it.
abbrev pub BytesAreTyped : Type 0
BytesAreTyped = (b : List ℕ) → Octets b → round_len ≤ length b → Typed (round_in b)
