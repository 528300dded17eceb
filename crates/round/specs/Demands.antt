-- What the owner asked for, as propositions; proofs/ proves each under the same name. H is the rule that gives bytes their id: SHA-256 in
-- the calls, and any rule that gives 32 bytes here.
use Rattle.std.specs.Prelude.{◌≡◌, ◌≢◌, ◌⊎◌, Bool, not, List, [], ◌∷◌, ◌++◌, map, ℕ, ◌+◌, ◌<◌, T, take, drop, Ok}
use Rattle.std.proofs.Math.Option.{Option, none, some}
use Rattle.base.specs.Tests.{◌∈◌}
use Rattle.base.specs.Refusals.{number_of}
use Rattle.base.specs.declared.refusal.Refusal.{Refusal}
use Rattle.base.specs.Ballots.{value_of}
use Rattle.digest.specs.Sha256.{sha256}
use Rattle.graph.specs.LearnerGraph.{LearnerGraph, is_safe}
use Rattle.message.specs.Reader.{reading}
use Rattle.message.specs.declared.Proposal.{Proposal}
use Rattle.message.specs.declared.AcceptorMessage.{AcceptorMessage}
use Rattle.message.specs.declared.Message.TheVariants.{OfProposer, OfAcceptor}
use Rattle.protocol.specs.Ids.{Id}
use Rattle.protocol.specs.Message.{Message}
use Rattle.protocol.specs.Table.{reach}
use Rattle.round.specs.Round.{Round}
use Rattle.round.specs.Limits.{listening}
use Rattle.round.specs.Holdings.{graph_of, id_at, named, is_proposal_at, is_recent, table_of, known_places}
use Rattle.round.specs.Handed.{fits}
use Rattle.round.specs.Rows.{reference_ids, previous_id, proposal_rows, acceptor_rows}
use Rattle.round.specs.Delivery.{delivered, replied}
use Rattle.round.specs.Answers.{with_reply, is_taken, decided_state, split_state, Page, delivery_number}
use Rattle.round.specs.Lists.{Call, run, last_round, accepted, written, pages}
use Rattle.round.specs.Premises.{IdRule, Starts, Typed}

-- the house and bay that bytes name
abbrev pub AddressedTo : List ℕ → ℕ → ℕ → Type 0
AddressedTo b house bay =
    ((f : Proposal) × (reading b ≡ Ok (OfProposer f)) × (f.house ≡ house) × (f.bay ≡ bay))
    ⊎ ((f : AcceptorMessage) × (reading b ≡ Ok (OfAcceptor f)) × (f.house ≡ house) × (f.bay ≡ bay))

-- ---- DEMAND 3, AGREEMENT
-- two different messages of M, both of acceptor p, "that name the same previous message or both name none"
abbrev pub Equivocates : List (List ℕ) → ℕ → Type 0
Equivocates M p = (m n : List ℕ) × (m ∈ M) × (n ∈ M) × (m ≢ n)
    × ((f g : AcceptorMessage) × (reading m ≡ Ok (OfAcceptor f)) × (reading n ≡ Ok (OfAcceptor g))
    × (f.signer ≡ p) × (g.signer ≡ p) × (previous_id m f ≡ previous_id n g))

-- "some safe set on their edge hold no acceptor" that does so
pub record SafeEdge (G : LearnerGraph) (M : List (List ℕ)) (a b : ℕ) : Type 0 where
  pub safe : ℕ → Bool
  pub is_safe_set : T (is_safe G a b safe)
  pub honest : (p : ℕ) → p < G.acceptors → T (safe p) → Equivocates M p → ⊥

-- "let no two different messages accepted or written in the two lists have one id"
abbrev pub NoCollision : (List ℕ → Id) → List (List ℕ) → Type 0
NoCollision H M = (m n : List ℕ) → m ∈ M → n ∈ M → H m ≡ H n → m ≡ n

-- "all decided reports .. give one value, and none .. is a split"
pub record OneValue (l : List Page) : Type 0 where
  pub values : (p q : Page) → p ∈ l → q ∈ l → p.state ≡ decided_state → q.state ≡ decided_state → value_of p.least ≡ value_of q.least
  pub whole : (p : Page) → p ∈ l → p.state ≢ split_state

-- "Learner A and learner B follow one house and bay under one accepted graph, each from a freshly opened round. Take every two lists of
-- deliveries and reports, refused ones included, one on A's round and one on B's .."
abbrev pub AgreementWith : (List ℕ → Id) → Type 0
AgreementWith H = (file : List ℕ) (house bay ownA ownB : ℕ) (rA rB : Round) → Starts file house bay ownA rA → Starts file house bay ownB rB
    → (a b : ℕ) → a < rA.graph.learners → b < rA.graph.learners
    → (lA lB : List Call)
    → SafeEdge (graph_of rA) (accepted (run H rA lA) ++ accepted (run H rB lB)) a b
    → NoCollision H ((accepted (run H rA lA) ++ accepted (run H rB lB)) ++ (written (run H rA lA) ++ written (run H rB lB)))
    → OneValue (pages a (run H rA lA) ++ pages b (run H rB lB))

abbrev pub AgreementOverLists : Type 0
AgreementOverLists = (H : List ℕ → Id) → IdRule H → AgreementWith H

-- ---- DEMAND 3, THE CHAIN
-- a written message names a previous id, or none
abbrev pub Names : List ℕ → Option Id → Type 0
Names z p = (f : AcceptorMessage) × (reading z ≡ Ok (OfAcceptor f)) × (previous_id z f ≡ p)

-- each message names the one before it, and the first one names p
unfoldable pub ChainFrom : (List ℕ → Id) → Option Id → List (List ℕ) → Type 0
ChainFrom H p [] = Unit {0}
ChainFrom H p (z ∷ l) = Names z p × ChainFrom H (some (H z)) l

-- "And for every list of these calls on our acceptor, started once, the first message it writes names no previous one, and each later one
-- names the one it wrote just before."
abbrev pub ChainWith : (List ℕ → Id) → Type 0
ChainWith H = (file : List ℕ) (house bay own : ℕ) (r : Round) → Starts file house bay own r → own < listening
    → (l : List Call) → ChainFrom H none (written (run H r l))

abbrev pub ChainOfReplies : Type 0
ChainOfReplies = (H : List ℕ → Id) → IdRule H → ChainWith H

-- both with the ids that the calls use
abbrev pub DemandThree : Type 0
DemandThree = AgreementWith sha256 × ChainWith sha256

-- ---- DEMAND 1, on each call
-- "Nothing refused alters a round or a reply buffer."
abbrev pub RefusedLeavesAll : Type 0
RefusedLeavesAll = (H : List ℕ → Id) (r : Round) (b buffer : List ℕ) → T (not (is_taken (delivery_number H r b buffer)))
    → ((delivered H r b buffer).round ≡ r) × (replied H r b buffer ≡ buffer)

-- "The reply fills the front of the buffer; bytes behind it keep their values, as do all bytes where there is no reply."
abbrev pub ReplyInFront : Type 0
ReplyInFront = (H : List ℕ → Id) (r : Round) (b buffer : List ℕ)
    → ((delivery_number H r b buffer ≡ 0 → replied H r b buffer ≡ buffer)
    × ((n : ℕ) → delivery_number H r b buffer ≡ with_reply + n → drop n (replied H r b buffer) ≡ drop n buffer))

-- "No message alters a round of another house or bay": it is 8, or 17 where the round or the buffer is at fault; and a refusal leaves all
abbrev pub OtherRoundRefused : Type 0
OtherRoundRefused = (H : List ℕ → Id) (r : Round) (b buffer : List ℕ) (house bay : ℕ)
    → AddressedTo b house bay → ((house ≡ r.house) × (bay ≡ r.bay) → ⊥)
    → (delivery_number H r b buffer ≡ 8) ⊎ (delivery_number H r b buffer ≡ 17)

-- and whatever is delivered, the round keeps its graph, its house, its bay and its own number
abbrev pub RoundStaysItself : Type 0
RoundStaysItself = (H : List ℕ → Id) → IdRule H → (r : Round) → Typed r → (b buffer : List ℕ)
    → ((delivered H r b buffer).round.graph ≡ r.graph) × ((delivered H r b buffer).round.house ≡ r.house)
    × ((delivered H r b buffer).round.bay ≡ r.bay) × ((delivered H r b buffer).round.own ≡ r.own)

-- "Checks run in this order: .. then 8 to 16": the rows are tried by ascending number
abbrev pub row_numbers : List (Bool × Refusal) → List ℕ
row_numbers l = map (λ x. number_of x.1) l

abbrev pub RowsInOrder : Type 0
RowsInOrder = (r : Round) (i : Id)
    → ((m : Proposal) → row_numbers (proposal_rows r i m) ≡ 8 ∷ 10 ∷ 16 ∷ [])
    × ((m : AcceptorMessage) (previous : Option Id) (ids : List Id) (tree : Message)
    → row_numbers (acceptor_rows r i m previous ids tree) ≡ 8 ∷ 9 ∷ 10 ∷ 11 ∷ 12 ∷ 14 ∷ 15 ∷ 16 ∷ [])

-- ---- rounds reached from an opening
-- a round reached from an opening passes 17 in every later call
abbrev pub ReachedFits : Type 0
ReachedFits = (H : List ℕ → Id) → IdRule H → (file : List ℕ) (house bay own : ℕ) (r : Round) → Starts file house bay own r
    → (l : List Call) → T (fits (last_round H r l))

-- and, where no two different messages have one id, each of its known messages has only known messages beneath it
abbrev pub KnownBeneath : Type 0
KnownBeneath = (H : List ℕ → Id) → IdRule H → (file : List ℕ) (house bay own : ℕ) (r : Round) → Starts file house bay own r
    → (l : List Call) → NoCollision H (accepted (run H r l) ++ written (run H r l))
    → (p q : ℕ) → p ∈ known_places (last_round H r l) → T (reach (table_of (last_round H r l)) p q) → q ∈ known_places (last_round H r l)

-- theorem 21 over a list: what is decided was proposed in an accepted message
abbrev pub ValidityOverLists : Type 0
ValidityOverLists = (H : List ℕ → Id) → IdRule H → (file : List ℕ) (house bay own : ℕ) (r : Round) → Starts file house bay own r
    → (l : List Call) (a : ℕ) (p : Page) → p ∈ pages a (run H r l) → p.state ≡ decided_state
    → (m : List ℕ) × (m ∈ accepted (run H r l)) × ((f : Proposal) × (reading m ≡ Ok (OfProposer f)) × (f.ballot ≡ p.least))

-- a written message is the own acceptor's, and one that names a previous message refers to it, as row 12 asks of a message that arrives
abbrev pub OwnChained : ℕ → List ℕ → Type 0
OwnChained own z = (f : AcceptorMessage) × (reading z ≡ Ok (OfAcceptor f)) × (f.signer ≡ own) × ((i : Id) → previous_id z f ≡ some i → i ∈ reference_ids z f)

abbrev pub ReplyIsChained : Type 0
ReplyIsChained = (H : List ℕ → Id) → IdRule H → (file : List ℕ) (house bay own : ℕ) (r : Round) → Starts file house bay own r
    → (l : List Call) (z : List ℕ) → z ∈ written (run H r l) → OwnChained own z

-- "m joins recent unless it is a proposal": no proposal is ever in recent
abbrev pub RecentHoldsVotes : Type 0
RecentHoldsVotes = (H : List ℕ → Id) → IdRule H → (file : List ℕ) (house bay own : ℕ) (r : Round) → Starts file house bay own r
    → (l : List Call) (q : ℕ) → q < (last_round H r l).held → T (is_recent (last_round H r l) q) → T (not (is_proposal_at (last_round H r l) q))

-- ---- "Messages written read back to the same fields": a reply is the own acceptor's message for the round's house and bay, naming last
-- sent and referring to recent ∪ {m}, each id once (they ascend strictly, as in all bytes that are read).
-- the id of a message in recent
abbrev pub RecentId : Round → Id → Type 0
RecentId r i = (q : ℕ) × (q < r.held) × T (is_recent r q) × (id_at r q ≡ i)

-- what z says as the reply of the round r, as it was before the delivery, to a message with the id m
abbrev pub ReplySays : Round → Id → List ℕ → Type 0
ReplySays r m z = (f : AcceptorMessage) × (reading z ≡ Ok (OfAcceptor f))
    × (f.house ≡ r.house) × (f.bay ≡ r.bay) × (f.signer ≡ r.own) × (previous_id z f ≡ named r r.last)
    × ((i : Id) → (i ∈ reference_ids z f → (i ≡ m) ⊎ RecentId r i) × ((i ≡ m) ⊎ RecentId r i → i ∈ reference_ids z f))

-- `Typed r` says that r's numbers are those that its types can hold.
abbrev pub ReplyReadsBack : Type 0
ReplyReadsBack = (H : List ℕ → Id) → IdRule H → (r : Round) → Typed r → (b buffer : List ℕ) (n : ℕ)
    → delivery_number H r b buffer ≡ with_reply + n → ReplySays r (H b) (take n (replied H r b buffer))
