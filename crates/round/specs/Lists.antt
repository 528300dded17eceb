-- "The lists of demand 3": any number of deliveries and reports, those turned down included, each on the round that the call before it left.
use Rattle.std.specs.Prelude.{◌&&◌, List, [], ◌∷◌, ℕ, eqb, take}
use Rattle.base.specs.Tests.{pick}
use Rattle.protocol.specs.Ids.{Id}
use Rattle.round.specs.Round.{Round}
use Rattle.round.specs.Answers.{has_reply, reply_size, is_taken, Page, delivery_number, reported_number, reported_page}
use Rattle.round.specs.Delivery.{delivered, replied}

-- "Each delivery has any message bytes and any reply buffer, of any length."
pub data Call : Type 0 where
  deliver : List ℕ → List ℕ → Call
  report : ℕ → Call

-- What is seen of a call: of a delivery its message, the number answered and the reply buffer afterwards; of a report its learner, the number answered
-- and the page, which counts where that number is 0.
pub data Seen : Type 0 where
  delivery : List ℕ → ℕ → List ℕ → Seen
  reporting : ℕ → ℕ → Page → Seen

module _ (H : List ℕ → Id) where
  abbrev pub seen : Round → Call → Seen
  seen r (deliver b buffer) = delivery b (delivery_number H r b buffer) (replied H r b buffer)
  seen r (report a) = reporting a (reported_number r a) (reported_page r a)

  -- "Each call gets the round as the call before it returned or left it; a report, or a call turned down, leaves it as it was."
  abbrev pub after : Round → Call → Round
  after r (deliver b buffer) = (delivered H r b buffer).round
  after r (report a) = r

  -- what is seen of a list, in its order
  unfoldable pub run : Round → List Call → List Seen
  run r [] = []
  run r (c ∷ l) = seen r c ∷ run (after r c) l

  -- the round that a list leaves
  unfoldable pub last_round : Round → List Call → Round
  last_round r [] = r
  last_round r (c ∷ l) = last_round (after r c) l

-- ---- "A message is accepted if a delivery of it in a list was not turned down,
unfoldable pub accepted : List Seen → List (List ℕ)
accepted [] = []
accepted (delivery b n buffer ∷ l) = pick (is_taken n) (b ∷ accepted l) (accepted l)
accepted (reporting a n p ∷ l) = accepted l

-- ---- and written if it is a reply in a list": the front of the buffer, as long as the number says. In the order of the list.
unfoldable pub written : List Seen → List (List ℕ)
written [] = []
written (delivery b n buffer ∷ l) = pick (has_reply n) (take (reply_size n) buffer ∷ written l) (written l)
written (reporting a n p ∷ l) = written l

-- ---- the reports for a learner, "wherever they stand": the pages of those that were not turned down
unfoldable pub pages : ℕ → List Seen → List Page
pages a [] = []
pages a (delivery b n buffer ∷ l) = pages a l
pages a (reporting c n p ∷ l) = pick (eqb c a && eqb n 0) (p ∷ pages a l) (pages a l)
