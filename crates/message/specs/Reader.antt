-- What any list of bytes says: a proposal, an acceptor message, or why it is turned down.
-- The checks run in document 01's order: outer length 1; version 2; kind, marker and count 3; inner length 1; ids 4. Bytes that end before a field give 1 ahead of that field's check.
use Rattle.std.specs.Prelude.{Bool, true, ◌≡◌, List, Result, Ok, Err, ℕ, ◌+◌, ◌*◌, ◌-◌, ◌≤◌, ◌<◌, eqb, ltb, leb, length, get_or}
use Rattle.base.specs.Tests.{pick}
use Rattle.base.specs.Bytes.{be, part}
use Rattle.base.specs.declared.refusal.Refusal.{Refusal}
use Rattle.base.specs.declared.refusal.Refusal.TheVariants.{Length, Version, Range, Order, Argument}
use Rattle.message.specs.declared.Proposal.{Proposal}
use Rattle.message.specs.declared.AcceptorMessage.{AcceptorMessage}
use Rattle.message.specs.declared.Message.{Message}
use Rattle.message.specs.declared.Message.TheVariants.{OfProposer, OfAcceptor}
use Rattle.message.specs.Layout.{outer_len, version_at, version, kind_at, proposal_kind, acceptor_kind, house_at, bay_at, signer_at, ballot_at, proposal_len, marker_at, previous_at, id_len, count_at, most_references, references_at, acceptor_len}
use Rattle.message.specs.Order.{ascending}

-- turned down, unless the test passes
abbrev pub unless : Bool → Refusal → Result Message Refusal → Result Message Refusal
unless test refusal more = pick test more (Err refusal)

-- the fields of a proposal
abbrev pub proposal_in : List ℕ → Proposal
proposal_in s = record { house = be 2 s house_at; bay = be 2 s bay_at; proposer = get_or s signer_at 0; ballot = be 8 s ballot_at }

-- the fields of an acceptor message
abbrev pub acceptor_in : List ℕ → Bool → ℕ → AcceptorMessage
acceptor_in s previous n = record { house = be 2 s house_at; bay = be 2 s bay_at; signer = get_or s signer_at 0; previous = previous; count = n }

-- after kind 1: house, bay, signer and ballot, and nothing behind them
abbrev pub read_proposal : List ℕ → Result Message Refusal
read_proposal s = unless (eqb (length s) proposal_len) Length (Ok (OfProposer (proposal_in s)))

-- after a count n: 1 to 128; then as many ids as it says, and nothing behind them; then their order
abbrev pub read_counted : List ℕ → Bool → ℕ → Result Message Refusal
read_counted s previous n =
    unless (ltb 0 n) Range
    (unless (leb n most_references) Range
    (unless (eqb (length s) (acceptor_len previous n)) Length
    (unless (ascending (n - 1) s (references_at previous)) Order (Ok (OfAcceptor (acceptor_in s previous n))))))

-- what stands before the references was read:
pub record Counted (s : List ℕ) (previous : Bool) (from n : ℕ) : Type 0 where
  -- the bytes do not end before the marker,
  pub marked : marker_at < length s
  -- the references begin at `from`,
  pub begins : from ≡ references_at previous
  -- which is no further on than behind a previous id,
  pub near : from ≤ references_at true
  -- and their count is a byte
  pub octet : n < 256

-- after a marker: the previous id if there is one, and the count
abbrev pub read_marked : List ℕ → Bool → Result Message Refusal
read_marked s previous = unless (ltb (count_at previous) (length s)) Length (read_counted s previous (get_or s (count_at previous) 0))

-- after kind 2: house, bay, signer and the marker, 0 or 1
abbrev pub read_acceptor : List ℕ → Result Message Refusal
read_acceptor s = unless (ltb marker_at (length s)) Length (unless (leb (get_or s marker_at 0) 1) Range (read_marked s (eqb (get_or s marker_at 0) 1)))

abbrev pub read_kind : List ℕ → ℕ → Result Message Refusal
read_kind s kind = pick (eqb kind proposal_kind) (read_proposal s) (unless (eqb kind acceptor_kind) Range (read_acceptor s))

-- what the bytes s say
abbrev pub reading : List ℕ → Result Message Refusal
reading s =
    unless (leb outer_len (length s)) Length
    (unless (eqb (length s) (outer_len + be 2 s 0)) Length
    (unless (ltb version_at (length s)) Length
    (unless (eqb (get_or s version_at 0) version) Version
    (unless (ltb kind_at (length s)) Length (read_kind s (get_or s kind_at 0))))))

-- the previous id, where there is one
abbrev pub previous_in : List ℕ → Bool → List ℕ
previous_in s previous = part (pick previous id_len 0) s previous_at

-- where the n-th of the count ids stands that end the bytes s, from 0 on; past the last there is none
abbrev pub nth_of : List ℕ → ℕ → ℕ → Result ℕ Refusal
nth_of s count n = pick (leb (id_len * count) (length s)) (pick (ltb n count) (Ok (length s - id_len * (count - n))) (Err Argument)) (Err Argument)

-- where the n-th reference of a message that was read stands, from 0 on; a proposal has none
abbrev pub reference_of : Result Message Refusal → ℕ → Result ℕ Refusal
reference_of (Err r) n = Err r
reference_of (Ok (OfProposer p)) n = Err Argument
reference_of (Ok (OfAcceptor m)) n = pick (ltb n m.count) (Ok (references_at m.previous + id_len * n)) (Err Argument)

-- where the n-th reference of the bytes s stands
abbrev pub reference_in : List ℕ → ℕ → Result ℕ Refusal
reference_in s n = reference_of (reading s) n
