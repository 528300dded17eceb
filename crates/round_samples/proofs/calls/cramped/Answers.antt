use Rattle.std.proofs.Common.{Err, ◌≡◌, ℕ, zero, suc, ◌+◌, ◌<◌, ◌≤◌, Bool, true, false, not, ◌||◌, eqb, ltb, List, [], length, get_or, replicate, sym, refl, ap, ◌∙◌, ap₂, arith, le-ltb, lt-ltb, eq-eqb}
use lib.ListN.{length-replicate, get_or-replicate}
use Rattle.base.specs.Tests.{pick}
use Rattle.base.specs.declared.refusal.Refusal.TheVariants.{Argument}
use Rattle.message.specs.Writer.{fronted}
use Rattle.message.specs.Reader.{reading}
use Rattle.digest.specs.Sha256.{sha256}
use Rattle.round.specs.Round.{Round}
use Rattle.round.specs.Outcomes.{Outcome}
use Rattle.round.specs.Limits.{reply_len}
use Rattle.round.specs.Handed.{fits}
use Rattle.round.specs.Delivery.{Effect, refused, taken, delivery}
use Rattle.roundbytes.specs.Layout.{round_len, round_in}
use Rattle.engine.specs.Calls.{deliver_answer, reply_to}
use Rattle.round_samples.specs.Calls.{blank, blanks, outcome_in64, left_by, differing_in}
use Rattle.round_samples.proofs.calls.cramped.Goals as goal

-- ---- a reply buffer that is too short: 17, and every byte as it was
module _ (r : Round) (d : Effect) (s : List ℕ) where
  turned : (t f u : Bool) → u ≡ true
      → (pick t (Err Argument) (pick (not f || u) (refused r Argument) d).outcome ≡ Err Argument)
      × (pick t s (fronted (pick (not f || u) (refused r Argument) d).reply s) ≡ s)
  turned true f u e = (refl, refl)
  turned false false u e = (refl, refl)
  turned false true u e = (ap (λ (k : Bool). (pick k (refused r Argument) d).outcome) e, ap (λ (k : Bool). fronted (pick k (refused r Argument) d).reply s) e)

too_short : (r b s : List ℕ) → length s < reply_len → (deliver_answer r b s ≡ Err Argument) × (reply_to r b s ≡ s)
unfolding deliver_answer reply_to delivery
too_short r b s h =
    turned (round_in r) (taken sha256 (round_in r) b (reading b)) s (ltb (length r) round_len) (fits (round_in r)) (ltb (length s) reply_len) (lt-ltb (length s) reply_len h)

-- ---- a buffer that nothing was written to
still : (m k : ℕ) → k ≤ m → differing_in k (replicate m blank) [] ≡ 0
unfolding differing_in
still m zero h = refl
still m (suc k) h =
    let left : left_by [] k ≡ blank = ap (λ (t : Bool). pick t (get_or [] k 0) blank) (le-ltb k 0 (omega arith)) in
    let same : eqb (get_or (replicate m blank) k 0) (left_by [] k) ≡ true = eq-eqb (get_or (replicate m blank) k 0) (left_by [] k) (get_or-replicate m k blank 0 (omega arith) ∙ sym left) in
    ap₂ (λ (n : ℕ) (t : Bool). n + pick t 0 1) (still m k (omega arith)) same

blank_length : (m : ℕ) → length (blanks m) ≡ m
unfolding blanks
blank_length m = length-replicate m blank

blank_still : (m : ℕ) → differing_in (length (blanks m)) (blanks m) [] ≡ 0
unfolding blanks
blank_still m = ap (λ (k : ℕ). differing_in k (replicate m blank) []) (length-replicate m blank) ∙ still m m (omega arith)

-- what follows of a buffer that was lent with 4,138 bytes
module _ (r b s after : List ℕ) (e : s ≡ blanks 4138) where
  refused_so : deliver_answer r b s ≡ Err Argument
  refused_so = (too_short r b s (omega (arith, ap length e, blank_length 4138))).0

  nothing_written : after ≡ reply_to r b s → differing_in (length after) after [] ≡ 0
  nothing_written f =
      let g : after ≡ blanks 4138 = f ∙ (too_short r b s (omega (arith, ap length e, blank_length 4138))).1 ∙ e in
      ap (λ (l : List ℕ). differing_in (length l) l []) g ∙ blank_still 4138

pub returns-then-differing-ne0 : goal.returns-then-differing-ne0
returns-then-differing-ne0 c =
    let a = c.args in
    let z = nothing_written a.round.bytes a.bytes.now c.blank-reply.result c.deliver-outcome.new.reply c.blank-reply.ensures c.deliver-outcome.ensures.1.1 in
    absurd (c.if-differing-ne0.true (c.differing.ensures ∙ z))

pub returns : goal.returns
returns c =
    let a = c.args in
    c.outcome_number.ensures
    ∙ ap
    (λ (o : Outcome). outcome_in64 o)
    (c.deliver-outcome.ensures.0 ∙ refused_so a.round.bytes a.bytes.now c.blank-reply.result [] c.blank-reply.ensures)
