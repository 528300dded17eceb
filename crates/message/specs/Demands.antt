-- What is promised of messages beside the contracts. Each is proved under its name, in small letters, in proofs/.
use Rattle.std.specs.Prelude.{◌⊎◌, ◌≡◌, Bool, true, List, Result, Ok, ℕ, ◌+◌, ◌*◌, ◌-◌, ◌^◌, ◌≤◌, ◌<◌, length}
use Rattle.base.specs.Bytes.{part, Octets}
use Rattle.base.specs.Ballots.{round_of, value_of}
use Rattle.base.specs.declared.refusal.Refusal.{Refusal}
use Rattle.message.specs.declared.Proposal.{Proposal}
use Rattle.message.specs.declared.AcceptorMessage.{AcceptorMessage}
use Rattle.message.specs.declared.Message.{Message}
use Rattle.message.specs.declared.Message.TheVariants.{OfProposer, OfAcceptor}
use Rattle.message.specs.Layout.{id_len, most_references, most_bytes, references_at}
use Rattle.message.specs.Order.{ascending}
use Rattle.message.specs.Reader.{reading, previous_in}
use Rattle.message.specs.Outcomes.{Outcome}
use Rattle.message.specs.Writer.{proposal_bytes, proposal_of, has_previous, acceptor_bytes}

-- the ids of n references, one behind the other
abbrev pub references_in : List ℕ → Bool → ℕ → List ℕ
references_in s previous n = part (id_len * n) s (references_at previous)

-- Reading decides every byte string: one of the outcomes holds, the reader's, and no other.
abbrev pub ExactlyOneOutcome : Type 0
ExactlyOneOutcome = (s : List ℕ) → Outcome s (reading s) × ((r : Result Message Refusal) → Outcome s r → r ≡ reading s)

-- A proposal that was written reads back to the same fields.
abbrev pub ProposalReadsBack : Type 0
ProposalReadsBack = (p : Proposal) → p.house < 2 ^ 16 → p.bay < 2 ^ 16 → p.ballot < 2 ^ 64 → reading (proposal_bytes p) ≡ Ok (OfProposer p)

-- Its ballot has the round number and the value that the writer was given.
abbrev pub BallotReadsBack : Type 0
BallotReadsBack = (house bay proposer round value : ℕ) → value < 2 ^ 32
    → (round_of (proposal_of house bay proposer round value).ballot ≡ round) × (value_of (proposal_of house bay proposer round value).ballot ≡ value)

-- An acceptor message that was written reads back to the same fields, and its ids stand at their places.
pub record AcceptorFields (house bay : ℕ) (previous : List ℕ) (n : ℕ) (ids : List ℕ) : Type 0 where
  pub house_fits : house < 2 ^ 16
  pub bay_fits : bay < 2 ^ 16
  pub previous_id : (length previous ≡ 0) ⊎ (length previous ≡ id_len)
  pub some : 0 < n
  pub most : n ≤ most_references
  pub whole : length ids ≡ id_len * n
  pub ordered : ascending (n - 1) ids 0 ≡ true

abbrev pub acceptor_of : ℕ → ℕ → ℕ → List ℕ → ℕ → AcceptorMessage
acceptor_of house bay signer previous n = record { house = house; bay = bay; signer = signer; previous = has_previous previous; count = n }

pub record AcceptorBack (house bay signer : ℕ) (previous : List ℕ) (n : ℕ) (ids s : List ℕ) : Type 0 where
  pub fields : reading s ≡ Ok (OfAcceptor (acceptor_of house bay signer previous n))
  pub previous_back : previous_in s (has_previous previous) ≡ previous
  pub references_back : references_in s (has_previous previous) n ≡ ids

abbrev pub AcceptorReadsBack : Type 0
AcceptorReadsBack = (house bay signer : ℕ) (previous : List ℕ) (n : ℕ) (ids : List ℕ) → AcceptorFields house bay previous n ids
    → AcceptorBack house bay signer previous n ids (acceptor_bytes house bay signer previous n ids)

-- No other bytes read to these fields.
abbrev pub ProposalBytesOnly : Type 0
ProposalBytesOnly = (s : List ℕ) (p : Proposal) → Octets s → reading s ≡ Ok (OfProposer p) → s ≡ proposal_bytes p

abbrev pub AcceptorBytesOnly : Type 0
AcceptorBytesOnly = (s : List ℕ) (m : AcceptorMessage) → Octets s → reading s ≡ Ok (OfAcceptor m)
    → s ≡ acceptor_bytes m.house m.bay m.signer (previous_in s m.previous) m.count (references_in s m.previous m.count)

-- Bytes that are read have length 17, 11 + 32n or 43 + 32n, at most 4,139.
abbrev pub ProposalLength : Type 0
ProposalLength = (s : List ℕ) (p : Proposal) → reading s ≡ Ok (OfProposer p) → length s ≡ 17

abbrev pub AcceptorLength : Type 0
AcceptorLength = (s : List ℕ) (m : AcceptorMessage) → reading s ≡ Ok (OfAcceptor m)
    → ((length s ≡ 11 + 32 * m.count) ⊎ (length s ≡ 43 + 32 * m.count)) × (length s ≤ most_bytes)
