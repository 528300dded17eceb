-- What the owner asked for, over the C calls: by the numbers that they answer and the bytes of the lent buffers alone, with SHA-256. proofs/Demands,
-- proofs/RoundCalls and proofs/PlainCalls prove each under the same name. A round buffer is b.
use Rattle.std.specs.Prelude.{◌≡◌, ◌≢◌, not, ◌&&◌, List, ◌++◌, map, ℕ, ◌+◌, ◌*◌, ◌≤◌, ◌<◌, T, ltb, length, get_or, Ok, Err}
use Rattle.std.proofs.Math.Option.{none}
use Rattle.base.specs.Tests.{pick}
use Rattle.base.specs.Bytes.{be, Octets}
use Rattle.base.specs.Refusals.{number_of, struck}
use Rattle.base.specs.declared.refusal.Refusal.{Refusal}
use Rattle.digest.specs.Sha256.{sha256}
use Rattle.graph.specs.declared.Graph.{Graph}
use Rattle.graph.specs.Memory.{view_of}
use Rattle.graphfile.specs.Arrays.{reading_of}
use Rattle.message.specs.declared.Proposal.{Proposal}
use Rattle.message.specs.Layout.{proposal_kind}
use Rattle.message.specs.Writer.{proposal_bytes, wrote, written_to, reference_answer, reference_to}
use Rattle.protocol.specs.Votes.{Few}
use Rattle.round.specs.Limits.{max_held, listening, own_allowed}
use Rattle.round.specs.Handed.{fits}
use Rattle.round.specs.Opening.{opened}
use Rattle.round.specs.Delivery.{message_read}
use Rattle.round.specs.Answers.{is_taken}
use Rattle.round.specs.Lists.{last_round, accepted, written, pages}
use Rattle.round.specs.FaultPage.{GroundedIn, SameRowIn}
use Rattle.round.specs.Neighbours.{SameCaughtIn, OneCaughtIn}
use Rattle.round.specs.Demands.{SafeEdge, NoCollision, OneValue, ChainFrom}
use Rattle.roundbytes.specs.Layout.{own_at, held_at, kinds_at, counts_at, references_at, round_len, round_in}
use Rattle.plain.specs.Digest.{digest_answer, digest_buffer}
use Rattle.plain.specs.Graph.{check_graph}
use Rattle.plain.specs.Answers.{answer_of}
use Rattle.plain.specs.Message.{read_answer, fields_to}
use Rattle.engine.specs.Calls.{open_to, deliver_to, reply_to}
use Rattle.hpaxos.specs.Round.{open_answer, deliver_answer, report_answer, report_to}
use Rattle.hpaxos.specs.Lists.{OpenedIn, Call, OfBytes, run, last_bytes, ruled}

-- ---- DEMAND 3
-- "Learner A and learner B follow one house and bay under one accepted graph, each from a freshly opened round. Take every two lists of deliveries and
-- reports, refused ones included, one on A's round and one on B's, .. Let some safe set on their edge hold no acceptor with two different accepted messages,
-- over both lists, that name the same previous message or both name none; let no two different messages accepted or written in the two lists have one id.
-- Then all decided reports for A in its list and for B in its own give one value, and none for either is a split."
abbrev pub AgreementInBytes : Type 0
AgreementInBytes = (file : List ℕ) (g : Graph) → reading_of file ≡ Ok g
    → (house bay acceptorA acceptorB : ℕ) (bA bB : List ℕ)
    → OpenedIn file house bay acceptorA bA → OpenedIn file house bay acceptorB bB
    → (a b : ℕ) → a < g.learners → b < g.learners
    → (lA lB : List Call) → OfBytes lA → OfBytes lB
    → SafeEdge (view_of g) (accepted (run bA lA) ++ accepted (run bB lB)) a b
    → NoCollision sha256 ((accepted (run bA lA) ++ accepted (run bB lB)) ++ (written (run bA lA) ++ written (run bB lB)))
    → OneValue (pages a (run bA lA) ++ pages b (run bB lB))

-- "And for every list of these calls on our acceptor, started once, the first message it writes names no previous one, and each later one names the one
-- it wrote just before."
abbrev pub ChainInBytes : Type 0
ChainInBytes = (file : List ℕ) (house bay acceptor : ℕ) (b : List ℕ) → OpenedIn file house bay acceptor b → acceptor < listening
    → (l : List Call) → OfBytes l → ChainFrom sha256 none (written (run b l))

abbrev pub DemandThreeInBytes : Type 0
DemandThreeInBytes = AgreementInBytes × ChainInBytes

-- ---- DEMAND 1: "Nothing refused alters a round or a reply buffer", nor any other lent byte, whatever stands in the buffers: of the calls on a round,
abbrev pub NothingRefusedAlters : Type 0
NothingRefusedAlters =
    ((file : List ℕ) (house bay acceptor : ℕ) (b : List ℕ) → open_answer file house bay acceptor b ≢ 0 → open_to file house bay acceptor b ≡ b)
    × ((b message reply : List ℕ) → T (not (is_taken (deliver_answer b message reply))) → (deliver_to b message reply ≡ b) × (reply_to b message reply ≡ reply))
    × ((b : List ℕ) (learner : ℕ) (page : List ℕ) → report_answer b learner page ≢ 0 → report_to b learner page ≡ page)

-- and of the others that write: digests, fields, references, proposals
abbrev pub NothingRefusedWrites : Type 0
NothingRefusedWrites =
    ((message digest : List ℕ) → digest_answer digest ≢ 0 → digest_buffer message digest ≡ digest)
    × ((message fields : List ℕ) → read_answer message fields ≢ 0 → fields_to message fields ≡ fields)
    × ((message : List ℕ) (n : ℕ) (id : List ℕ) → answer_of (reference_answer message n id) ≢ 0 → reference_to message n id ≡ id)
    × ((p : Proposal) (message : List ℕ) → answer_of (wrote (proposal_bytes p) message) ≢ 0 → written_to (proposal_bytes p) message ≡ message)

-- ---- the buffer holds the round that the rules lead to, after every list of calls
abbrev pub RoundInBytes : Type 0
RoundInBytes = (file : List ℕ) (house bay acceptor : ℕ) (b : List ℕ) → OpenedIn file house bay acceptor b → (l : List Call) → OfBytes l
    → round_in (last_bytes b l) ≡ last_round sha256 (opened file house bay acceptor).round (map ruled l)

-- ---- NEIGHBOURS ON THE NOVEMBER TEXT: both texts catch the same acceptors in each message that the buffer holds, where no two different messages accepted
-- or written in the list have one id
abbrev pub SameCaughtInBytes : Type 0
SameCaughtInBytes = (file : List ℕ) (house bay acceptor : ℕ) (b : List ℕ) → OpenedIn file house bay acceptor b → (l : List Call) → OfBytes l
    → NoCollision sha256 (accepted (run b l) ++ written (run b l)) → SameCaughtIn (round_in (last_bytes b l))

-- and so they do in a message that two buffers hold, under whatever plans, the one text read in the one buffer and the other in the other
abbrev pub OneCaughtListInBytes : Type 0
OneCaughtListInBytes = (fileA fileB : List ℕ) (house bay acceptorA acceptorB : ℕ) (bA bB : List ℕ)
    → OpenedIn fileA house bay acceptorA bA → OpenedIn fileB house bay acceptorB bB
    → (lA lB : List Call) → OfBytes lA → OfBytes lB
    → NoCollision sha256 ((accepted (run bA lA) ++ accepted (run bB lB)) ++ (written (run bA lA) ++ written (run bB lB)))
    → OneCaughtIn (round_in (last_bytes bA lA)) (round_in (last_bytes bB lB))

-- ---- CONTROLLERS THAT TALK TO THEMSELVES: for each ballot our acceptor writes at most one 1b and at most as many 2as as the plan has learners. What the
-- written bytes say is read over the round that the list leaves in the buffer.
abbrev pub FewRepliesInBytes : Type 0
FewRepliesInBytes = (file : List ℕ) (g : Graph) → reading_of file ≡ Ok g → (house bay acceptor : ℕ) (b : List ℕ) → OpenedIn file house bay acceptor b → (l : List Call) → OfBytes l
    → NoCollision sha256 (accepted (run b l) ++ written (run b l))
    → Few (view_of g) (map (message_read sha256 (round_in (last_bytes b l))) (written (run b l)))

-- ---- OPENING: "a graph file (checked first; 17 comes after 7)". A file that is turned down answers its own row, whatever else is given or lent; with
-- the graph g of one that is not, it is 17 where the acceptor number is neither in g nor 256 and where the buffer is too short for a round; and otherwise 0.
abbrev pub OpeningInOrder : Type 0
OpeningInOrder = (file : List ℕ) (house bay acceptor : ℕ) (b : List ℕ)
    → ((e : Refusal) → reading_of file ≡ Err e → (check_graph file ≡ number_of e) × (open_answer file house bay acceptor b ≡ number_of e))
    × ((g : Graph) → reading_of file ≡ Ok g
    → (check_graph file ≡ 0) × (open_answer file house bay acceptor b ≡ pick (own_allowed acceptor g.acceptors && not (ltb (length b) round_len)) 0 17))

-- ---- a round that is 17 in every call on it, whatever else is given or lent
abbrev pub Is17InBytes : List ℕ → Type 0
Is17InBytes b = ((message reply : List ℕ) → deliver_answer b message reply ≡ 17) × ((learner : ℕ) (page : List ℕ) → report_answer b learner page ≡ 17)

-- "own acceptor number not in the graph", handed in with a round: 256 alone stands for none
abbrev pub ForeignOwnIs17 : Type 0
ForeignOwnIs17 = (b : List ℕ) → get_or b 0 0 ≤ be 2 b own_at → be 2 b own_at ≢ listening → Is17InBytes b

-- ---- A SHORTER FAULT PAGE
-- why row 13 could be struck, whatever bytes are handed in as a round: where row 17 lets them pass, a proposal lies beneath each acceptor message whose
-- references are known, and "growers see the same acceptances as before"
abbrev pub StruckInBytes : Type 0
StruckInBytes = (b : List ℕ) → Octets b → round_len ≤ length b → T (fits (round_in b)) → GroundedIn sha256 (round_in b) × SameRowIn sha256 (round_in b)

-- "strike 13 from code and table, and do not use the number again": no call on a round answers it
abbrev pub StruckNeverAnswered : Type 0
StruckNeverAnswered = ((file : List ℕ) (house bay acceptor : ℕ) (b : List ℕ) → open_answer file house bay acceptor b ≢ struck)
    × ((b message reply : List ℕ) → deliver_answer b message reply ≢ struck)
    × ((b : List ℕ) (learner : ℕ) (page : List ℕ) → report_answer b learner page ≢ struck)

-- ---- PLACES IN ONE BYTE
-- "a reference place of 128 to 255 handed in is still 17", in every call on a round: byte i of the references of the held acceptor message at place p,
-- whatever the round's other bytes are and whatever else is lent
abbrev pub WidePlaceIs17 : Type 0
WidePlaceIs17 = (b : List ℕ) (p i : ℕ) → p < get_or b held_at 0 → get_or b (kinds_at + p) 0 ≢ proposal_kind → i < get_or b (counts_at + p) 0
    → max_held ≤ get_or b (references_at + (max_held * p + i)) 0 → Is17InBytes b
