-- Rows 8 to 16 of the table "When a call is turned down", each with its words, and their order. There is no row 13 (base/specs/Refusals).
use Rattle.std.specs.Prelude.{Bool, false, not, ◌&&◌, List, [], ◌∷◌, map, ℕ, zero, suc, ◌+◌, eqb, leb}
use Rattle.std.proofs.Math.Option.{Option, none, some}
use Rattle.base.specs.Tests.{pick, any, all}
use Rattle.base.specs.Bytes.{part}
use Rattle.base.specs.declared.refusal.Refusal.{Refusal}
use Rattle.base.specs.declared.refusal.Refusal.TheVariants.{OtherRound, Signer, Known, Reference, Previous, Malformed1b, Malformed2a, Full}
use Rattle.message.specs.Layout as layout
use Rattle.message.specs.declared.Proposal.{Proposal}
use Rattle.message.specs.declared.AcceptorMessage.{AcceptorMessage}
use Rattle.protocol.specs.Ids.{Id, same_id}
use Rattle.protocol.specs.Message.{Message}
use Rattle.protocol.specs.WellFormed.{formed1b, formed2a}
use Rattle.protocol.specs.Table.{Held, says, node_by, tree}
use Rattle.round.specs.Round.{Round}
use Rattle.round.specs.Limits.{max_held, acceptor_room}
use Rattle.round.specs.Holdings.{graph_of, is_voting, is_proposal_at, signer_at, table_of, is_known, place_of}

-- ---- what the bytes b of an acceptor message name: n ids, one behind the other, from `at` on
unfoldable pub ids_from : ℕ → List ℕ → ℕ → List Id
ids_from zero b at = []
ids_from (suc n) b at = part layout.id_len b at ∷ ids_from n b (at + layout.id_len)

-- its references
abbrev pub reference_ids : List ℕ → AcceptorMessage → List Id
reference_ids b m = ids_from m.count b (layout.references_at m.previous)

-- its previous id, or none
abbrev pub previous_id : List ℕ → AcceptorMessage → Option Id
previous_id b m = pick m.previous (some (part layout.id_len b layout.previous_at)) none

-- ---- tests on the place that an id names
-- a place that is there and passes
abbrev pub placed : (ℕ → Bool) → Option ℕ → Bool
placed f none = false
placed f (some p) = f p

-- the place, or 0 where there is none
abbrev pub or_zero : Option ℕ → ℕ
or_zero none = 0
or_zero (some p) = p

module _ (r : Round) where
  -- ---- row 8: "another house or bay"
  abbrev pub other_round : ℕ → ℕ → Bool
  other_round house bay = not (eqb house r.house && eqb bay r.bay)

  -- ---- row 9: "signer of an acceptor message not in the graph"
  abbrev pub foreign : ℕ → Bool
  foreign signer = leb r.graph.acceptors signer

  -- ---- row 10: "known already"
  abbrev pub is_known_id : Id → Bool
  is_known_id i = placed (is_known r) (place_of r i)

  -- held, and awaiting its return
  abbrev pub is_awaited : Id → Bool
  is_awaited i = placed (λ p. not (is_known r p)) (place_of r i)

  -- ---- row 11: "a reference not known"
  unfoldable pub lacks : List Id → Bool
  lacks ids = not (all is_known_id ids)

  -- ---- row 12: "previous message not referred to, a proposal, or of another signer"
  abbrev pub is_vote_of : ℕ → ℕ → Bool
  is_vote_of signer p = not (is_proposal_at r p) && eqb (signer_at r p) signer

  unfoldable pub unchained : ℕ → List Id → Option Id → Bool
  unchained signer ids none = false
  unchained signer ids (some i) = not (any (same_id i) ids && placed (is_vote_of signer) (place_of r i))

  -- the record of an acceptor message; its message, over the messages held
  abbrev pub vote_record : Id → ℕ → Option Id → List Id → Held
  vote_record id signer previous ids = says id signer previous (map (λ i. or_zero (place_of r i)) ids)

  abbrev pub message_of : Held → Message
  message_of h = node_by (tree (table_of r)) h

  -- ---- row 14: "1b not well-formed"
  abbrev pub malformed1b : Message → Bool
  malformed1b m = not (formed1b m)

  -- ---- row 15: "2a not well-formed"
  abbrev pub malformed2a : Message → Bool
  malformed2a m = not (formed2a (graph_of r) m)

  -- ---- row 16: "full: 128 held; for an acceptor 127, or 128 for its own message returning"
  abbrev pub room : Id → ℕ
  room i = pick (is_voting r && not (is_awaited i)) acceptor_room max_held

  abbrev pub full : Id → Bool
  full i = leb (room i) r.held

  -- ---- the order: "then 8 to 16". A proposal has no signer in the graph, no references and no form.
  unfoldable pub proposal_rows : Id → Proposal → List (Bool × Refusal)
  proposal_rows i m = (other_round m.house m.bay, OtherRound) ∷ (is_known_id i, Known) ∷ (full i, Full) ∷ []

  unfoldable pub acceptor_rows : Id → AcceptorMessage → Option Id → List Id → Message → List (Bool × Refusal)
  acceptor_rows i m previous ids tree =
      (other_round m.house m.bay, OtherRound)
      ∷ (foreign m.signer, Signer)
      ∷ (is_known_id i, Known)
      ∷ (lacks ids, Reference)
      ∷ (unchained m.signer ids previous, Previous)
      ∷ (malformed1b tree, Malformed1b)
      ∷ (malformed2a tree, Malformed2a)
      ∷ (full i, Full)
      ∷ []

-- the first row that applies
unfoldable pub first_of : List (Bool × Refusal) → Option Refusal
first_of [] = none
first_of ((applies, e) ∷ l) = pick applies (some e) (first_of l)
