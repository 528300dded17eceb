-- A delivery: the checks in their order, then what is held and what is sent. H is the rule that gives bytes their id.
use Rattle.std.specs.Prelude.{not, ◌||◌, List, [], ℕ, ◌+◌, ◌*◌, ltb, length, set, replicate, Some, None, Ok, Err}
use Rattle.std.proofs.Math.Option.{Option, none, some}
use Rattle.base.specs.Tests.{pick}
use Rattle.base.specs.Bytes.{put_at}
use Rattle.base.specs.declared.refusal.Refusal.{Refusal}
use Rattle.base.specs.declared.refusal.Refusal.TheVariants.{Argument}
use Rattle.message.specs.Layout.{id_len, proposal_kind, acceptor_kind}
use Rattle.message.specs.Reader.{reading}
use Rattle.message.specs.Writer.{fronted}
use Rattle.message.specs.declared.Proposal.{Proposal}
use Rattle.message.specs.declared.AcceptorMessage.{AcceptorMessage}
use Rattle.message.specs.declared.Message.TheVariants.{OfProposer, OfAcceptor}
use Rattle.protocol.specs.Ids.{Id}
use Rattle.protocol.specs.Message.{Message}
use Rattle.protocol.specs.Table.{Held, offers, says}
use Rattle.round.specs.Round.{Round}
use Rattle.round.specs.Outcomes.{Outcome, Reading}
use Rattle.round.specs.Limits.{max_held, no_place, reply_len}
use Rattle.round.specs.Holdings.{is_voting, is_proposal_at, place_of}
use Rattle.round.specs.Handed.{fits}
use Rattle.round.specs.Rows.{or_zero, reference_ids, previous_id, vote_record, message_of, proposal_rows, acceptor_rows, first_of}
use Rattle.round.specs.Reply.{reply_bytes, reply_record, is_sent}

-- ---- holding a message
-- the place of a previous id, or none
abbrev pub previous_place : Round → Option Id → ℕ
previous_place r none = no_place
previous_place r (some i) = or_zero (place_of r i)

-- a row put behind the held ones, one entry in each column; the references as given
abbrev pub with_row : Round → List ℕ → Id → ℕ → ℕ → ℕ → ℕ → ℕ → ℕ → Round
with_row r references id kind signer ballot previous count known =
    record {
      graph = r.graph;
      house = r.house;
      bay = r.bay;
      own = r.own;
      held = r.held + 1;
      last = r.last;
      ids = put_at r.ids (id_len * r.held) id;
      kinds = set r.kinds r.held kind;
      signers = set r.signers r.held signer;
      ballots = set r.ballots r.held ballot;
      previous = set r.previous r.held previous;
      counts = set r.counts r.held count;
      references = references;
      known = set r.known r.held known;
      recent = set r.recent r.held 0;
    }

-- last sent, the known ones and the recent ones, anew; the messages are as they were
abbrev pub with_marks : Round → ℕ → List ℕ → List ℕ → Round
with_marks r last known recent =
    record {
      graph = r.graph;
      house = r.house;
      bay = r.bay;
      own = r.own;
      held = r.held;
      last = last;
      ids = r.ids;
      kinds = r.kinds;
      signers = r.signers;
      ballots = r.ballots;
      previous = r.previous;
      counts = r.counts;
      references = r.references;
      known = known;
      recent = recent;
    }

-- a record put behind the held ones; known is 1 or 0. Of its references only those that it has are written.
unfoldable pub hold : Round → Held → ℕ → Round
hold r (offers i s b) known = with_row r r.references i proposal_kind s b no_place 0 known
hold r (says i s p places) known = with_row r (put_at r.references (max_held * r.held) places) i acceptor_kind s 0 (previous_place r p) (length places) known

-- "A message awaiting return becomes known only when delivered": it keeps its place
abbrev pub returned : Round → ℕ → Round
returned r p = with_marks r r.last (set r.known p 1) r.recent

-- an accepted message becomes known: o is the place that its id names, where it awaited its return; else it goes behind the others
abbrev pub entered_in : Round → Held → Option ℕ → Round
entered_in r h none = hold r h 1
entered_in r h (some p) = returned r p

-- and this is its place then
abbrev pub entered_at : Round → Option ℕ → ℕ
entered_at r none = r.held
entered_at r (some p) = p

-- recent and last sent, anew
abbrev pub with_recent : Round → ℕ → List ℕ → Round
with_recent r last recent = with_marks r last r.known recent

-- recent, with the message at place p "unless it is a proposal"
abbrev pub recent_with : Round → ℕ → List ℕ
recent_with r p = pick (is_proposal_at r p) r.recent (set r.recent p 1)

-- what a delivery gives: the answer, the next round, and the bytes put to the front of the reply buffer
pub record Effect : Type 0 where
  pub outcome : Outcome
  pub round : Round
  pub reply : List ℕ

-- the answer and the next round alone
pub record Delivered : Type 0 where
  pub outcome : Outcome
  pub round : Round

-- a refusal is its number alone: the round is as it was, and nothing is written
abbrev pub refused : Round → Refusal → Effect
refused r e = record { outcome = Err e; round = r; reply = [] }

module _ (H : List ℕ → Id) where
  -- ---- the record of the message that the bytes b say, over the messages that r holds (bytes that do not read say none)
  abbrev pub record_read : Round → List ℕ → Reading → Held
  record_read r b (Ok (OfProposer f)) = offers (H b) f.proposer f.ballot
  record_read r b (Ok (OfAcceptor f)) = vote_record r (H b) f.signer (previous_id b f) (reference_ids b f)
  record_read r b (Err e) = offers [] 0 0

  -- this message
  abbrev pub message_read : Round → List ℕ → Message
  message_read r b = message_of r (record_read r b (reading b))

  -- r once it is known
  abbrev pub knowing : Round → List ℕ → Round
  knowing r b = entered_in r (record_read r b (reading b)) (place_of r (H b))

  -- ---- after acceptance: r holds the message at place p
  -- "If z is well-formed it is written to the reply buffer, held as awaiting return, becomes last sent, and recent becomes {z}."
  abbrev pub sent : Round → ℕ → List ℕ → Effect
  sent r p z =
      record {
        outcome = Ok (Some (length z));
        round = with_recent (hold r (reply_record r (H z) p) 0) r.held (set (replicate max_held 0) r.held 1);
        reply = z;
      }

  -- "Otherwise m joins recent unless it is a proposal."
  abbrev pub joins : Round → ℕ → Effect
  joins r p =
      record {
        outcome = Ok None;
        round = with_recent r r.last (recent_with r p);
        reply = [];
      }

  abbrev pub answered : Round → ℕ → List ℕ → Effect
  answered r p z = pick (is_sent r (message_of r (reply_record r (H z) p))) (sent r p z) (joins r p)

  unfoldable pub processed : Round → ℕ → Effect
  processed r p = pick (is_voting r) (answered r p (reply_bytes r p)) (record { outcome = Ok None; round = r; reply = [] })

  -- ---- an accepted message becomes known, and is answered
  abbrev pub entered : Round → Held → Option ℕ → Effect
  entered r h o = processed (entered_in r h o) (entered_at r o)

  -- refused by the first row that applies, or else entered
  abbrev pub decided_by : Round → Id → Held → Option Refusal → Effect
  decided_by r i h (some e) = refused r e
  decided_by r i h none = entered r h (place_of r i)

  abbrev pub proposal_taken : Round → Id → Proposal → Effect
  proposal_taken r i m = decided_by r i (offers i m.proposer m.ballot) (first_of (proposal_rows r i m))

  abbrev pub acceptor_taken : Round → Id → AcceptorMessage → Option Id → List Id → Effect
  acceptor_taken r i m previous ids =
      let h = vote_record r i m.signer previous ids in
      decided_by r i h (first_of (acceptor_rows r i m previous ids (message_of r h)))

  -- what the bytes b say
  abbrev pub taken : Round → List ℕ → Reading → Effect
  taken r b (Err e) = refused r e
  taken r b (Ok (OfProposer m)) = proposal_taken r (H b) m
  taken r b (Ok (OfAcceptor m)) = acceptor_taken r (H b) m (previous_id b m) (reference_ids b m)

  -- "Checks run in this order: 17", the reader's, "then 8 to 16"
  unfoldable pub delivery : Round → List ℕ → List ℕ → Effect
  delivery r b buffer = pick (not (fits r) || ltb (length buffer) reply_len) (refused r Argument) (taken r b (reading b))

  -- what `deliver` answers, and the reply buffer afterwards: "bytes behind it keep their values"
  abbrev pub delivered : Round → List ℕ → List ℕ → Delivered
  delivered r b buffer = record { outcome = (delivery r b buffer).outcome; round = (delivery r b buffer).round }

  abbrev pub replied : Round → List ℕ → List ℕ → List ℕ
  replied r b buffer = fronted (delivery r b buffer).reply buffer
