-- "It must shut out: a round that turns every message down; a report that is always undecided; a delivery that stores nothing; an acceptor
-- that votes on its first message and is mute later; an invented reply length; a 16 with fewer held than row 16 names." What shuts out each
-- of the six, as propositions; proofs/ proves each under the same name.
use Rattle.std.specs.Prelude.{◌≡◌, ◌⊎◌, ◌↔◌, not, List, [], ◌∷◌, ◌++◌, ℕ, ◌+◌, ◌<◌, ◌≤◌, T, length, get_or, take, Ok}
use Rattle.std.proofs.Math.Option.{none, some}
use Rattle.base.specs.Bytes.{be}
use Rattle.message.specs.Layout.{outer_len, acceptor_len}
use Rattle.message.specs.Reader.{reading}
use Rattle.message.specs.declared.Proposal.{Proposal}
use Rattle.message.specs.declared.AcceptorMessage.{AcceptorMessage}
use Rattle.message.specs.declared.Message.TheVariants.{OfProposer, OfAcceptor}
use Rattle.protocol.specs.Ids.{Id}
use Rattle.protocol.specs.Message.{Message}
use Rattle.protocol.specs.WellFormed.{formed1b, formed2a, well_formed}
use Rattle.protocol.specs.Report.{decides}
use Rattle.protocol.specs.Equations.{Peopled}
use Rattle.round.specs.Round.{Round}
use Rattle.round.specs.Limits.{acceptor_room, reply_len}
use Rattle.round.specs.Holdings.{graph_of, is_voting, named, is_proposal_at, table_of, is_known, known_messages, place_of}
use Rattle.round.specs.Handed.{fits}
use Rattle.round.specs.Rows.{reference_ids, previous_id, placed, is_known_id, is_awaited, lacks, unchained, vote_record, message_of, room}
use Rattle.round.specs.Delivery.{record_read, message_read, knowing, Effect, delivery, delivered, replied}
use Rattle.round.specs.Answers.{with_reply, outcome_number, has_reply, is_taken, undecided_state, delivery_number, reported_number, reported_page}
use Rattle.round.specs.Premises.{IdRule, Typed}
use Rattle.round.specs.Demands.{RecentId, ReplySays}

-- a delivery is not turned down
abbrev pub NotRefused : (List ℕ → Id) → Round → List ℕ → List ℕ → Type 0
NotRefused H r b buffer = T (is_taken (delivery_number H r b buffer))

-- row 17 has nothing against the round and the buffer
abbrev pub Handed : Round → List ℕ → Type 0
Handed r buffer = T (fits r) × (reply_len ≤ length buffer)

-- ---- "a round that turns every message down"
-- a proposal for the round's house and bay that is not known is accepted while there is room
abbrev pub ProposalAccepted : Type 0
ProposalAccepted = (H : List ℕ → Id) (r : Round) (b buffer : List ℕ) (f : Proposal) → Handed r buffer → reading b ≡ Ok (OfProposer f)
    → f.house ≡ r.house → f.bay ≡ r.bay → T (not (is_known_id r (H b))) → r.held < room r (H b)
    → NotRefused H r b buffer

-- so is an acceptor message to which none of the rows applies
abbrev pub VoteAccepted : Type 0
VoteAccepted = (H : List ℕ → Id) (r : Round) (b buffer : List ℕ) (f : AcceptorMessage) (m : Message) → Handed r buffer → reading b ≡ Ok (OfAcceptor f)
    → f.house ≡ r.house → f.bay ≡ r.bay → f.signer < r.graph.acceptors → T (not (is_known_id r (H b)))
    → T (not (lacks r (reference_ids b f))) → T (not (unchained r f.signer (reference_ids b f) (previous_id b f)))
    → m ≡ message_of r (vote_record r (H b) f.signer (previous_id b f) (reference_ids b f))
    → T (formed1b m) → T (formed2a (graph_of r) m) → r.held < room r (H b)
    → NotRefused H r b buffer

-- ---- "a report that is always undecided"
-- no ballot decides where a report is undecided, as `ReportSays` (Passed) says of all three verdicts; every graph that an opening accepts is peopled
abbrev pub UndecidedOnly : Type 0
UndecidedOnly = (r : Round) (a : ℕ) → Peopled (graph_of r) a → reported_number r a ≡ 0 → (reported_page r a).state ≡ undecided_state → (x : ℕ) → T (decides (graph_of r) (known_messages r) a x) → ⊥

-- ---- "a delivery that stores nothing"
-- what is accepted is known afterwards, and what was known stays known
abbrev pub AcceptedIsKnown : Type 0
AcceptedIsKnown = (H : List ℕ → Id) → IdRule H → (r : Round) → Typed r → (b buffer : List ℕ) → NotRefused H r b buffer
    → T (is_known_id (delivered H r b buffer).round (H b))
    × ((i : Id) → T (is_known_id r i) → T (is_known_id (delivered H r b buffer).round i))

-- m, by the bytes b, is known in s, which holds what r holds, and m behind it unless m awaited its return
pub record Stores (H : List ℕ → Id) (r s : Round) (b : List ℕ) : Type 0 where
  pub known : T (is_known_id s (H b))
  pub holds : ((place_of r (H b) ≡ none) × (table_of s ≡ table_of r ++ record_read H r b (reading b) ∷ [])) ⊎ (T (is_awaited r (H b)) × (table_of s ≡ table_of r))

-- so it is of what is accepted, in a round that listens as in one that votes; and one that listens does no more
abbrev pub AcceptedIsHeld : Type 0
AcceptedIsHeld = (H : List ℕ → Id) → IdRule H → (r : Round) → Typed r → (b buffer : List ℕ) → NotRefused H r b buffer
    → Stores H r (knowing H r b) b
    × (T (not (is_voting r)) → (delivery_number H r b buffer ≡ 0) × ((delivered H r b buffer).round ≡ knowing H r b) × (replied H r b buffer ≡ buffer))

-- ---- "an acceptor that votes on its first message and is mute later"
-- whatever it sent before, it answers each new proposal whose ballot is above those of the proposals it holds
abbrev pub NewBallotAnswered : Type 0
NewBallotAnswered = (H : List ℕ → Id) → IdRule H → (r : Round) → Typed r → T (is_voting r) → (b buffer : List ℕ) (f : Proposal) → Handed r buffer → reading b ≡ Ok (OfProposer f)
    → f.house ≡ r.house → f.bay ≡ r.bay → place_of r (H b) ≡ none → r.held < acceptor_room
    → ((q : ℕ) → q < r.held → T (is_proposal_at r q) → get_or r.ballots q 0 < f.ballot)
    → T (has_reply (delivery_number H r b buffer))

-- and it votes wherever it may: "An acceptor then forms z with its last sent message as previous and the references recent ∪ {m}. If z is well-formed
-- it is written to the reply buffer, held as awaiting return, becomes last sent, and recent becomes {z}. Otherwise m joins recent unless it is a
-- proposal."
-- Of an accepted message m, r is the round before it, s the round once it is known, and d what its delivery gives. Where z is sent,
pub record SentOff (H : List ℕ → Id) (s : Round) (z : List ℕ) (d : Effect) : Type 0 where
  -- "it is written to the reply buffer,
  pub answers : outcome_number d.outcome ≡ with_reply + length z
  pub writes : d.reply ≡ z
  -- held as awaiting return,
  pub holds : table_of d.round ≡ table_of s ++ record_read H s z (reading z) ∷ []
  pub awaits : T (not (is_known d.round s.held))
  -- becomes last sent,
  pub last : named d.round d.round.last ≡ some (H z)
  -- and recent becomes {z}"
  pub recent : (i : Id) → RecentId d.round i ↔ (i ≡ H z)

-- where nothing is (m has the id i),
pub record SentNothing (r s : Round) (i : Id) (d : Effect) : Type 0 where
  pub answers : outcome_number d.outcome ≡ 0
  -- the messages and last sent stay
  pub holds : table_of d.round ≡ table_of s
  pub last : named d.round d.round.last ≡ named r r.last
  -- and "m joins recent unless it is a proposal"
  pub recent : (j : Id) → RecentId d.round j ↔ (RecentId r j ⊎ ((j ≡ i) × T (placed (λ p. not (is_proposal_at s p)) (place_of s i))))

-- and which of the two it is (the bytes b say m)
pub record Responds (H : List ℕ → Id) (r s : Round) (b : List ℕ) (d : Effect) : Type 0 where
  -- z, by its bytes, is the own acceptor's message for the round's house and bay, with last sent as previous and the references recent ∪ {m};
  pub z : List ℕ
  pub forms : ReplySays r (H b) z
  -- a reply is sent exactly where z, be it a 1b or a 2a, is well-formed;
  pub exactly : T (has_reply (outcome_number d.outcome)) ↔ T (well_formed (graph_of r) (message_read H s z))
  -- it is z, and otherwise m joins recent
  pub sent : T (has_reply (outcome_number d.outcome)) → SentOff H s z d
  pub silent : T (not (has_reply (outcome_number d.outcome))) → SentNothing r s (H b) d

-- whatever round is handed in, whatever was sent before and whatever arrives (a round that fails 17 refuses it)
abbrev pub SentExactlyWhenFormed : Type 0
SentExactlyWhenFormed = (H : List ℕ → Id) → IdRule H → (r : Round) → Typed r → T (is_voting r) → (b buffer : List ℕ) → NotRefused H r b buffer
    → Responds H r (knowing H r b) b (delivery H r b buffer)

-- ---- "an invented reply length"
-- the answer is the length of a message that reads, the one that its own bytes say: 11 + 32n or 43 + 32n, at most 4,139
abbrev pub ReplyLength : Type 0
ReplyLength = (H : List ℕ → Id) → IdRule H → (r : Round) → Typed r → (b buffer : List ℕ) (n : ℕ) → delivery_number H r b buffer ≡ with_reply + n
    → (n ≤ reply_len) × (outer_len + be 2 (take n (replied H r b buffer)) 0 ≡ n)
    × ((f : AcceptorMessage) × (reading (take n (replied H r b buffer)) ≡ Ok (OfAcceptor f)) × (n ≡ acceptor_len f.previous f.count))

-- ---- "a 16 with fewer held than row 16 names"
-- "full: 128 held; for an acceptor 127, or 128 for its own message returning"
abbrev pub FullOnly : Type 0
FullOnly = (H : List ℕ → Id) (r : Round) (b buffer : List ℕ) → delivery_number H r b buffer ≡ 16
    → (127 ≤ r.held) × ((T (is_voting r) → ⊥) ⊎ T (is_awaited r (H b)) → 128 ≤ r.held)

-- and nothing is accepted into a round that is full
abbrev pub RoomFound : Type 0
RoomFound = (H : List ℕ → Id) (r : Round) (b buffer : List ℕ) → NotRefused H r b buffer → r.held < room r (H b)
