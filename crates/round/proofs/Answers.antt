-- The answers by their numbers, and the numbers by the answers.
use mathlib.Core.Path.{◌≡◌, refl, sym, ap, subst, ◌∙◌}
use mathlib.Core.Logic.{◌≢◌}
use mathlib.Core.Bool.{Bool, true, false, not, ◌||◌}
use mathlib.Core.List.{List, ◌∷◌}
use Prim.Native.Nat.{ℕ, ◌+◌, ◌-◌, ◌<◌}
use native.Mathlib.Omega.{arith}
use lib.Dec.{T, eqb}
use lib.ListN.{take}
use borrow.Author.Tests.{ne_eqb, le-leb, lt-leb}
use Rattle.std.specs.Prelude.{Ok, Err, Some, None}
use Rattle.base.specs.Tests.{pick}
use Rattle.base.specs.Refusals.{number_of}
use Rattle.base.specs.declared.refusal.Refusal.{Refusal}
use Rattle.base.specs.declared.refusal.Refusal.TheVariants.{Length, Version, Range, Order, Mask, NotValid, NotCondensed, OtherRound, Signer, Known, Reference, Previous, Malformed1b, Malformed2a, Full, Argument}
use Rattle.round.specs.Outcomes.{Opening, Outcome, Reporting}
use Rattle.round.specs.declared.Report.TheVariants as answer
use Rattle.round.specs.Answers.{opening_number, with_reply, outcome_number, has_reply, reply_size, is_taken, report_number, undecided_state, decided_state, split_state, page_of}

-- ---- rows
-- the number of a row is neither 0 nor that of a reply
pub row_number : (e : Refusal) → (0 < number_of e) × (number_of e < with_reply)
row_number Length = (omega arith, omega arith)
row_number Version = (omega arith, omega arith)
row_number Range = (omega arith, omega arith)
row_number Order = (omega arith, omega arith)
row_number Mask = (omega arith, omega arith)
row_number NotValid = (omega arith, omega arith)
row_number NotCondensed = (omega arith, omega arith)
row_number OtherRound = (omega arith, omega arith)
row_number Signer = (omega arith, omega arith)
row_number Known = (omega arith, omega arith)
row_number Reference = (omega arith, omega arith)
row_number Previous = (omega arith, omega arith)
row_number Malformed1b = (omega arith, omega arith)
row_number Malformed2a = (omega arith, omega arith)
row_number Full = (omega arith, omega arith)
row_number Argument = (omega arith, omega arith)

-- 16 is the number of the row of a full round alone
sixteen : (e : Refusal) → number_of e ≡ 16 → e ≡ Full
sixteen Length h = absurd (omega arith)
sixteen Version h = absurd (omega arith)
sixteen Range h = absurd (omega arith)
sixteen Order h = absurd (omega arith)
sixteen Mask h = absurd (omega arith)
sixteen NotValid h = absurd (omega arith)
sixteen NotCondensed h = absurd (omega arith)
sixteen OtherRound h = absurd (omega arith)
sixteen Signer h = absurd (omega arith)
sixteen Known h = absurd (omega arith)
sixteen Reference h = absurd (omega arith)
sixteen Previous h = absurd (omega arith)
sixteen Malformed1b h = absurd (omega arith)
sixteen Malformed2a h = absurd (omega arith)
sixteen Full h = refl
sixteen Argument h = absurd (omega arith)

pub row_shut : (e : Refusal) → eqb (number_of e) 0 ≡ false
row_shut e = ne_eqb (number_of e) 0 (λ q. omega (arith, (row_number e).0))

row_not_taken : (e : Refusal) → is_taken (number_of e) ≡ false
row_not_taken e = simp (row_shut e, lt-leb with_reply (number_of e) (row_number e).1)

-- ---- openings
pub opened_number : (a : Opening) → opening_number a ≡ 0 → a ≡ Ok tt
opened_number (Ok tt) e = refl
opened_number (Err x) e = absurd (omega (arith, (row_number x).0))

-- ---- deliveries
reply_there : (n : ℕ) → has_reply (with_reply + n) ≡ true
reply_there n = le-leb with_reply (with_reply + n) (omega arith)

or_true : (t : Bool) → (t || true) ≡ true
or_true true = refl
or_true false = refl

pub refused_number : (o : Outcome) → T (not (is_taken (outcome_number o))) → (e : Refusal) × (o ≡ Err e)
refused_number (Ok None) h = absurd h
refused_number (Ok (Some n)) h = absurd (rw (reply_there n, or_true) at h)
refused_number (Err e) h = (e, refl)

pub taken_number : (o : Outcome) → T (is_taken (outcome_number o)) → (e : Refusal) → o ≢ Err e
taken_number o h e q = subst T (ap (λ (x : Outcome). is_taken (outcome_number x)) q ∙ row_not_taken e) h

pub number_taken : (o : Outcome) → ((e : Refusal) → o ≢ Err e) → T (is_taken (outcome_number o))
number_taken (Ok None) k = tt
number_taken (Ok (Some n)) k = rw (reply_there n, or_true) tt
number_taken (Err e) k = absurd (k e refl)

pub number_replied : (o : Outcome) (n : ℕ) → o ≡ Ok (Some n) → T (has_reply (outcome_number o))
number_replied o n e = subst (λ (x : Outcome). T (has_reply (outcome_number x))) (sym e) (rw (reply_there n) tt)

pub replied_number : (o : Outcome) (n : ℕ) → outcome_number o ≡ with_reply + n → o ≡ Ok (Some n)
replied_number (Ok None) n e = absurd (omega arith)
replied_number (Ok (Some m)) n e = let q : m ≡ n = omega arith in ap (λ (k : ℕ). Ok (Some k)) q
replied_number (Err x) n e = absurd (omega (arith, (row_number x).1))

pub silent_number : (o : Outcome) → outcome_number o ≡ 0 → o ≡ Ok None
silent_number (Ok None) e = refl
silent_number (Ok (Some m)) e = absurd (omega arith)
silent_number (Err x) e = absurd (omega (arith, (row_number x).0))

pub full_number : (o : Outcome) → outcome_number o ≡ 16 → o ≡ Err Full
full_number (Ok None) e = absurd (omega arith)
full_number (Ok (Some m)) e = absurd (omega arith)
full_number (Err x) e = ap Err (sixteen x e)

-- what a delivery adds to the written messages
module _ (buffer : List ℕ) (l : List (List ℕ)) where
  abbrev pub written_by : ℕ → List (List ℕ)
  written_by n = pick (has_reply n) (take (reply_size n) buffer ∷ l) l

  pub written_silent : (o : Outcome) → o ≡ Ok None → written_by (outcome_number o) ≡ l
  written_silent o e = ap (λ (x : Outcome). written_by (outcome_number x)) e

  pub written_refused : (o : Outcome) (e : Refusal) → o ≡ Err e → written_by (outcome_number o) ≡ l
  written_refused o e q = ap (λ (x : Outcome). written_by (outcome_number x)) q ∙ simp (lt-leb with_reply (number_of e) (row_number e).1)

  pub written_replied : (o : Outcome) (n : ℕ) → o ≡ Ok (Some n) → written_by (outcome_number o) ≡ take n buffer ∷ l
  written_replied o n q =
      let e : with_reply + n - with_reply ≡ n = omega arith in
      ap (λ (x : Outcome). written_by (outcome_number x)) q ∙ simp (reply_there n, e)

-- ---- reports: one that is not turned down, by the state of its page
pub undecided_page : (x : Reporting) → report_number x ≡ 0 → (page_of x).state ≡ undecided_state → x ≡ Ok answer.Undecided
undecided_page (Ok answer.Undecided) e s = refl
undecided_page (Ok (answer.Decided b)) e s = absurd (omega arith)
undecided_page (Ok (answer.Split b c)) e s = absurd (omega arith)
undecided_page (Err r) e s = absurd (omega (arith, (row_number r).0))

pub decided_page : (x : Reporting) → report_number x ≡ 0 → (page_of x).state ≡ decided_state → x ≡ Ok (answer.Decided (page_of x).least)
decided_page (Ok answer.Undecided) e s = absurd (omega arith)
decided_page (Ok (answer.Decided b)) e s = refl
decided_page (Ok (answer.Split b c)) e s = absurd (omega arith)
decided_page (Err r) e s = absurd (omega arith)

pub split_page : (x : Reporting) → report_number x ≡ 0 → (page_of x).state ≡ split_state → x ≡ Ok (answer.Split (page_of x).least (page_of x).other)
split_page (Ok answer.Undecided) e s = absurd (omega arith)
split_page (Ok (answer.Decided b)) e s = absurd (omega arith)
split_page (Ok (answer.Split b c)) e s = refl
split_page (Err r) e s = absurd (omega arith)
