-- What row 17 says of a round handed in: its own number, and places in one byte. proofs/OwnNumber and proofs/OneByte prove each under the same name.
use Rattle.std.specs.Prelude.{◌≡◌, ◌≢◌, ◌⊎◌, not, List, ℕ, ◌<◌, ◌≤◌, T, get_or, set, Ok}
use Rattle.std.proofs.Math.Option.{none}
use Rattle.graph.specs.declared.Graph.{Graph}
use Rattle.graphfile.specs.Arrays.{reading_of}
use Rattle.protocol.specs.Ids.{Id}
use Rattle.round.specs.Round.{Round}
use Rattle.round.specs.Limits.{max_held, no_place, listening}
use Rattle.round.specs.Holdings.{named, is_proposal_at, references_at}
use Rattle.round.specs.Handed.{fits}
use Rattle.round.specs.Opening.{opened}
use Rattle.round.specs.Delivery.{with_recent}
use Rattle.round.specs.Answers.{opening_number, delivery_number, reported_number}

-- ---- a round that is 17 in every call on it, whatever else is given or lent
abbrev pub Is17 : Round → Type 0
Is17 r = ((H : List ℕ → Id) (b buffer : List ℕ) → delivery_number H r b buffer ≡ 17) × ((a : ℕ) → reported_number r a ≡ 17)

-- ---- THE OWN NUMBER: "own acceptor number not in the graph" is 17, given to an opening whose file is accepted or handed in with a round. 256 alone
-- stands for none, so a larger number is like any other that the graph lacks.
abbrev pub ForeignOwnRefused : Type 0
ForeignOwnRefused =
    ((file : List ℕ) (house bay own : ℕ) (g : Graph) → reading_of file ≡ Ok g → g.acceptors ≤ own → own ≢ listening
    → opening_number (opened file house bay own).answer ≡ 17)
    × ((r : Round) → r.graph.acceptors ≤ r.own → r.own ≢ listening → Is17 r)

-- ---- PLACES IN ONE BYTE: what row 17 says of places (how wide each is in a round's bytes: roundbytes/specs/ByteWidths)
-- "a reference place of 128 to 255 handed in is still 17": reference i of the held acceptor message at place p, whatever else the round holds and
-- whatever is asked of it
abbrev pub WidePlaceRefused : Type 0
WidePlaceRefused = (r : Round) (p i : ℕ) → p < r.held → T (not (is_proposal_at r p)) → max_held ≤ get_or (references_at r p) i 0 → Is17 r

-- r with q as the place of the previous message of place p
abbrev pub with_previous : Round → ℕ → ℕ → Round
with_previous r p q =
    record {
      graph = r.graph;
      house = r.house;
      bay = r.bay;
      own = r.own;
      held = r.held;
      last = r.last;
      ids = r.ids;
      kinds = r.kinds;
      signers = r.signers;
      ballots = r.ballots;
      previous = set r.previous p q;
      counts = r.counts;
      references = r.references;
      known = r.known;
      recent = r.recent;
    }

-- 255 names no message. In last sent and in previous it may stand, and no other number from 128 on; as a reference none of them may.
pub record NoneInTwo (r : Round) : Type 0 where
  pub nameless : named r no_place ≡ none
  pub last_may : T (fits (with_recent r no_place r.recent))
  pub previous_may : (p : ℕ) → T (fits (with_previous r p no_place))
  pub last : (r.last ≡ no_place) ⊎ (r.last < max_held)
  pub previous : (p : ℕ) → p < r.held → (get_or r.previous p 0 ≡ no_place) ⊎ (get_or r.previous p 0 < max_held)
  pub references : (p i : ℕ) → p < r.held → T (not (is_proposal_at r p)) → get_or (references_at r p) i 0 < max_held

abbrev pub NoneInLastAndPrevious : Type 0
NoneInLastAndPrevious = (r : Round) → T (fits r) → NoneInTwo r
