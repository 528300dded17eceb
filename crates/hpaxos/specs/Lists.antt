-- Lists of the C calls on one round buffer, by what a caller sees: the numbers answered and the bytes left in the lent buffers. What is accepted,
-- written and shown in a list is read off that as round/specs/Lists says.
use Rattle.std.specs.Prelude.{◌≡◌, List, [], ◌∷◌, ℕ, ◌+◌, ◌<◌, ◌^◌, get_or}
use Rattle.base.specs.Bytes.{be, Octets}
use Rattle.round.specs.Answers.{Page, page}
use Rattle.round.specs.Lists as rules
use Rattle.round.specs.Lists.{Seen, delivery, reporting}
use Rattle.engine.specs.Calls.{open_to, deliver_to, reply_to}
use Rattle.hpaxos.specs.Round.{open_answer, deliver_answer, report_answer, report_to}

-- b is a round buffer as a call of hpaxos_open left it that answered 0, for a file of bytes and numbers that the call's types can hold
pub record OpenedIn (file : List ℕ) (house bay acceptor : ℕ) (b : List ℕ) : Type 0 where
  pub lent : List ℕ
  pub answers : open_answer file house bay acceptor lent ≡ 0
  pub leaves : b ≡ open_to file house bay acceptor lent
  pub file_bytes : Octets file
  pub house_fits : house < 256 ^ 2
  pub bay_fits : bay < 256 ^ 2

-- hpaxos_deliver with a message and a reply buffer, and hpaxos_report with a learner and a buffer for the page; buffers of any length
pub data Call : Type 0 where
  deliver : List ℕ → List ℕ → Call
  report : ℕ → List ℕ → Call

-- the delivered messages are bytes, as all in a buffer of C is
unfoldable pub OfBytes : List Call → Type 0
OfBytes [] = Unit {0}
OfBytes (deliver message reply ∷ l) = Octets message × OfBytes l
OfBytes (report learner page ∷ l) = OfBytes l

-- the page in a buffer: its state in the first byte, and behind it two ballots
abbrev pub least_at : ℕ
least_at = 1

abbrev pub other_at : ℕ
other_at = least_at + 8

abbrev pub page_in : List ℕ → Page
page_in b = page (get_or b 0 0) (be 8 b least_at) (be 8 b other_at)

-- what is seen of a call on the round in the bytes b, and the bytes that it leaves there: a report gets them to read only
abbrev pub seen : List ℕ → Call → Seen
seen b (deliver message reply) = delivery message (deliver_answer b message reply) (reply_to b message reply)
seen b (report learner page) = reporting learner (report_answer b learner page) (page_in (report_to b learner page))

abbrev pub after : List ℕ → Call → List ℕ
after b (deliver message reply) = deliver_to b message reply
after b (report learner page) = b

-- "Each call gets the round as the call before it returned or left it": what is seen of a list, in its order, and the bytes that it leaves
unfoldable pub run : List ℕ → List Call → List Seen
run b [] = []
run b (c ∷ l) = seen b c ∷ run (after b c) l

unfoldable pub last_bytes : List ℕ → List Call → List ℕ
last_bytes b [] = b
last_bytes b (c ∷ l) = last_bytes (after b c) l

-- the same call in the rules of a round, which know no buffer for a page
abbrev pub ruled : Call → rules.Call
ruled (deliver message reply) = rules.deliver message reply
ruled (report learner page) = rules.report learner
