-- What the steps of a delivery ask for, what they answer, and what they leave in the reply buffer.
use Rattle.std.specs.Prelude.{◌≡◌, ◌⊎◌, List, ℕ, suc, ◌≤◌, ◌<◌, length, Ok, Err, Some, None}
use Rattle.base.specs.declared.refusal.Refusal.{Refusal}
use Rattle.message.specs.Writer.{fronted}
use Rattle.notes.specs.declared.Notes.{Notes}
use Rattle.meaning.specs.Inside.Records.{Fit}
use Rattle.round.specs.Round.{Round}
use Rattle.round.specs.Outcomes.{Outcome}
use Rattle.round.specs.Limits.{max_held, listening, reply_len}
use Rattle.round.specs.Delivery.{Effect, Delivered}
use Rattle.roundbytes.specs.Layout.{round_in}
use Rattle.judging.specs.Inside.Standing.{Passes}
use Rattle.derive.specs.Inside.Complete.{WorkedTo}

-- ---- what is given
-- the answer and the buffer afterwards are those of a result
abbrev pub Gives : Effect → Delivered → List ℕ → List ℕ → Type 0
Gives d r before after = (r ≡ record { outcome = d.outcome; round = d.round }) × (after ≡ fronted d.reply before)

-- an answer, and the round that the bytes have then
abbrev pub left : Outcome → List ℕ → Delivered
left o s = record { outcome = o; round = round_in s }

-- accepted with no reply, and with one of n bytes
abbrev pub accepts : Round → Delivered
accepts r = record { outcome = Ok None; round = r }

abbrev pub replies : ℕ → Round → Delivered
replies n r = record { outcome = Ok (Some n); round = r }

-- refused, and the round as it was
abbrev pub refusal : Round → Refusal → Delivered
refusal r e = record { outcome = Err e; round = r }

-- ---- what is asked
-- of the bytes s of a round that may answer the message at place p, and of the reply buffer
pub record Answerable (s : List ℕ) (p : ℕ) (buffer : List ℕ) : Type 0 where
  -- the round passes row 17,
  pub passes : Passes s
  -- the message is held,
  pub here : p < (round_in s).held
  -- a round that votes has a place left for its reply,
  pub room : (round_in s).own < listening → (round_in s).held < max_held
  -- and the longest message fits the buffer
  pub long : reply_len ≤ length buffer

-- of the notes of a round
pub record Begun (r : Round) (n : ℕ) (notes : Notes) : Type 0 where
  -- those of its first n places are right,
  pub worked : WorkedTo r n notes
  -- which are all, or all but the last, which none of them names as its previous one
  pub near : (n ≡ r.held) ⊎ ((r.held ≡ suc n) × Fit n r)
