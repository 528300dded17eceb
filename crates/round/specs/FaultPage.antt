-- A shorter fault page: what let row 13, "no proposal in Tran", be struck. proofs/Struck proves each under the same name.
use Rattle.std.specs.Prelude.{◌≡◌, Bool, not, List, [], ◌∷◌, ℕ, T, Ok}
use Rattle.std.proofs.Math.Option.{Option, none, some, map}
use Rattle.base.specs.Tests.{pick, any}
use Rattle.base.specs.Refusals.{number_of}
use Rattle.message.specs.Reader.{reading}
use Rattle.message.specs.declared.AcceptorMessage.{AcceptorMessage}
use Rattle.message.specs.declared.Message.TheVariants.{OfAcceptor}
use Rattle.protocol.specs.Ids.{Id}
use Rattle.protocol.specs.Message.{Message, is_proposal, tran}
use Rattle.protocol.specs.Table.{tree}
use Rattle.round.specs.Round.{Round}
use Rattle.round.specs.Handed.{fits}
use Rattle.round.specs.Rows.{reference_ids, previous_id, other_round, foreign, is_known_id, lacks, unchained, message_of, malformed1b, malformed2a, full, acceptor_rows, first_of}
use Rattle.round.specs.Delivery.{record_read}
use Rattle.round.specs.Premises.{Typed}

-- a proposal lies beneath m
abbrev pub grounded : Message → Bool
grounded m = any is_proposal (tran m)

-- the acceptor message that the bytes b say, over the messages that r holds
abbrev pub arriving : (List ℕ → Id) → Round → List ℕ → AcceptorMessage → Message
arriving H r b f = message_of r (record_read H r b (Ok (OfAcceptor f)))

-- "An acceptor message has a reference, each reference is to a known message, so a proposal always lies beneath."
abbrev pub GroundedIn : (List ℕ → Id) → Round → Type 0
GroundedIn H r = (b : List ℕ) (f : AcceptorMessage) → reading b ≡ Ok (OfAcceptor f)
    → T (not (lacks r (reference_ids b f))) → T (grounded (arriving H r b f))

-- "Show this for every round that passes 17": of a `Typed` one, whose table has each reference that a count names. A round in bytes always is
-- (StruckInBytes of hpaxos).
abbrev pub AlwaysGrounded : Type 0
AlwaysGrounded = (H : List ℕ → Id) (r : Round) → Typed r → T (fits r) → GroundedIn H r

-- the table as it was: rows 8 to 16 of an acceptor message, each test with its number; the rows of a proposal are those that they were
unfoldable pub former_rows : Round → Id → AcceptorMessage → Option Id → List Id → Message → List (Bool × ℕ)
former_rows r i m previous ids tree =
    (other_round r m.house m.bay, 8)
    ∷ (foreign r m.signer, 9)
    ∷ (is_known_id r i, 10)
    ∷ (lacks r ids, 11)
    ∷ (unchained r m.signer ids previous, 12)
    ∷ (not (grounded tree), 13)
    ∷ (malformed1b r tree, 14)
    ∷ (malformed2a r tree, 15)
    ∷ (full r i, 16)
    ∷ []

-- the number of the first row that applies
unfoldable pub first_number : List (Bool × ℕ) → Option ℕ
first_number [] = none
first_number ((applies, n) ∷ l) = pick applies (some n) (first_number l)

-- "Growers see the same acceptances as before": a message is turned down by the row that turned it down before, or by none where none did
abbrev pub SameRowIn : (List ℕ → Id) → Round → Type 0
SameRowIn H r = (b : List ℕ) (f : AcceptorMessage) → reading b ≡ Ok (OfAcceptor f)
    → first_number (former_rows r (H b) f (previous_id b f) (reference_ids b f) (arriving H r b f))
    ≡ map number_of (first_of (acceptor_rows r (H b) f (previous_id b f) (reference_ids b f) (arriving H r b f)))

abbrev pub SameAcceptances : Type 0
SameAcceptances = (H : List ℕ → Id) (r : Round) → Typed r → T (fits r) → SameRowIn H r
