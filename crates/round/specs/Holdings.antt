-- What a round holds. The arrays give a table of records, and the table gives each place its message (protocol/specs/Table).
use Rattle.std.specs.Prelude.{Bool, not, List, ℕ, zero, suc, ◌*◌, eqb, ltb, get_or}
use Rattle.std.proofs.Math.Option.{Option, none, some}
use Rattle.base.specs.Tests.{pick, filter, below}
use Rattle.base.specs.Bytes.{part}
use Rattle.graph.specs.LearnerGraph.{LearnerGraph}
use Rattle.graph.specs.Memory.{view_of}
use Rattle.message.specs.Layout.{id_len, proposal_kind}
use Rattle.protocol.specs.Ids.{Id, same_id}
use Rattle.protocol.specs.Message.{Message}
use Rattle.protocol.specs.Table.{Held, offers, says, Table, tabulate, messages}
use Rattle.round.specs.Round.{Round}
use Rattle.round.specs.Limits.{max_held, no_place, listening}

module _ (r : Round) where
  -- the learner graph of the round
  abbrev pub graph_of : LearnerGraph
  graph_of = view_of r.graph

  -- whether the round has an acceptor number, and so votes; row 17 lets no number above 256 pass
  abbrev pub is_voting : Bool
  is_voting = ltb r.own listening

  -- ---- the fields of the message at a place
  abbrev pub id_at : ℕ → Id
  id_at p = part id_len r.ids (id_len * p)

  abbrev pub is_proposal_at : ℕ → Bool
  is_proposal_at p = eqb (get_or r.kinds p 0) proposal_kind

  abbrev pub signer_at : ℕ → ℕ
  signer_at p = get_or r.signers p 0

  -- the id of a place, or none
  abbrev pub named : ℕ → Option Id
  named p = pick (eqb p no_place) none (some (id_at p))

  abbrev pub previous_at : ℕ → Option Id
  previous_at p = named (get_or r.previous p 0)

  abbrev pub references_at : ℕ → List ℕ
  references_at p = part (get_or r.counts p 0) r.references (max_held * p)

  abbrev pub record_at : ℕ → Held
  record_at p = pick (is_proposal_at p) (offers (id_at p) (signer_at p) (get_or r.ballots p 0)) (says (id_at p) (signer_at p) (previous_at p) (references_at p))

  -- ---- the table of held messages
  abbrev pub table_of : Table
  table_of = tabulate r.held record_at

  -- "An accepted message becomes known."
  abbrev pub is_known : ℕ → Bool
  is_known p = not (eqb (get_or r.known p 0) 0)

  abbrev pub known_places : List ℕ
  known_places = filter is_known (below r.held)

  -- the known messages
  abbrev pub known_messages : List Message
  known_messages = messages table_of known_places

  abbrev pub is_recent : ℕ → Bool
  is_recent p = not (eqb (get_or r.recent p 0) 0)

-- ---- "Messages are told apart by id; an id held twice names the lower place."
-- the least number below n that passes
unfoldable pub lowest : (ℕ → Bool) → ℕ → Option ℕ
lowest f zero = none
lowest f (suc n) = elim (lowest f n) [ none ↦ pick (f n) (some n) none | some p ↦ some p ]

-- the place that an id names
unfoldable pub place_of : Round → Id → Option ℕ
place_of r i = lowest (λ p. same_id (id_at r p) i) r.held
