-- What row 17 says of places: a round that passes it refers to places below 128 alone, and 255 stands for none in last sent and previous.
use mathlib.Core.Path.{◌≡◌, refl, sym, ap, subst}
use mathlib.Core.Logic.{◌⊎◌, inl, inr}
use mathlib.Core.Bool.{Bool, false, not, ◌||◌}
use mathlib.Core.List.{List, [], ◌∷◌}
use Prim.Native.Nat.{ℕ, zero, suc, ◌≤◌, ◌<◌}
use native.Mathlib.Omega.{arith}
use lib.Dec.{T, ltb, leb, not_T}
use lib.ListN.{length, get_or, set}
use Rattle.std.specs.Prelude.{Ok, Err}
use Rattle.base.specs.Tests.{pick}
use Rattle.base.specs.declared.refusal.Refusal.TheVariants.{Argument}
use Rattle.base.proofs.Tests.{not_true, entry_below}
use Rattle.message.specs.Reader.{reading}
use Rattle.protocol.specs.Ids.{Id}
use Rattle.protocol.specs.Report.{report}
use Rattle.round.specs.Round.{Round}
use Rattle.round.specs.Limits.{max_held, no_place, reply_len}
use Rattle.round.specs.Holdings.{graph_of, is_proposal_at, references_at, known_messages}
use Rattle.round.specs.Handed.{place_fits, refers_back, own_fits, fits}
use Rattle.round.specs.Delivery.{refused, taken, delivery, delivered, with_recent}
use Rattle.round.specs.Report.{told, reported}
use Rattle.round.specs.Row17.{Is17, WidePlaceRefused, with_previous, NoneInLastAndPrevious}
use Rattle.round.proofs.Fitting.{Fitting, fits_out, fits_in, back_out, place_cases, place_none}
use Rattle.round.specs.Answers.{outcome_number, report_number}

-- ---- a round that does not pass row 17
pub unfit_delivered : (H : List ℕ → Id) (r : Round) (b buffer : List ℕ) → fits r ≡ false → (delivered H r b buffer).outcome ≡ Err Argument
unfolding delivery
unfit_delivered H r b buffer e = ap (λ (t : Bool). (pick (not t || ltb (length buffer) reply_len) (refused r Argument) (taken H r b (reading b))).outcome) e

pub unfit_reported : (r : Round) (a : ℕ) → fits r ≡ false → reported r a ≡ Err Argument
unfolding reported
unfit_reported r a e = ap (λ (t : Bool). pick (not t || leb r.graph.learners a) (Err Argument) (Ok (told (report (graph_of r) (known_messages r) a)))) e

pub unfit_is_17 : (r : Round) → fits r ≡ false → Is17 r
unfit_is_17 r e = (λ H b buffer. ap outcome_number (unfit_delivered H r b buffer e), λ a. ap report_number (unfit_reported r a e))

-- ---- references
-- in a round that passes, each is to a place below 128
pub narrow : (r : Round) → Fitting r → (p i : ℕ) → p < r.held → T (not (is_proposal_at r p)) → get_or (references_at r p) i 0 < max_held
narrow r f p i l t =
    let most : r.held ≤ max_held = f.most in
    entry_below (references_at r p) max_held (omega arith) (λ j m. let k : j < p = (back_out r p (f.back p l) t).1 j m in omega arith) i

pub wide_unfit : (r : Round) (p i : ℕ) → p < r.held → T (not (is_proposal_at r p)) → max_held ≤ get_or (references_at r p) i 0 → fits r ≡ false
wide_unfit r p i l t wide = not_true (fits r) (not_T (fits r) (λ h. let k = narrow r (fits_out r h) p i l t in absurd (omega arith)))

pub wide_place_refused : WidePlaceRefused
wide_place_refused r p i l t wide =
    unfit_is_17 r (wide_unfit r p i l t wide)

-- ---- none
-- what is written to one entry of a list is there, and every other entry is as it was
set_entry : (l : List ℕ) (p x q : ℕ) → (get_or (set l p x) q 0 ≡ x) ⊎ (get_or (set l p x) q 0 ≡ get_or l q 0)
set_entry [] p x q = inr refl
set_entry (y ∷ l) zero x zero = inl refl
set_entry (y ∷ l) zero x (suc q) = inr refl
set_entry (y ∷ l) (suc p) x zero = inr refl
set_entry (y ∷ l) (suc p) x (suc q) = set_entry l p x q

last_may_lem : (r : Round) → Fitting r → Fitting (with_recent r no_place r.recent)
unfolding own_fits refers_back
last_may_lem r f =
    record {
      graph = f.graph;
      own = f.own;
      most = f.most;
      last = place_none r no_place refl;
      counts = f.counts;
      previous = f.previous;
      back = f.back;
    }

previous_may_lem : (r : Round) (p : ℕ) → Fitting r → Fitting (with_previous r p no_place)
unfolding own_fits refers_back
previous_may_lem r p f =
    record {
      graph = f.graph;
      own = f.own;
      most = f.most;
      last = f.last;
      counts = f.counts;
      previous = λ q l. step q l (set_entry r.previous p no_place q);
      back = f.back;
    }
  where
    now : ℕ → ℕ
    now q = get_or (set r.previous p no_place) q 0

    step : (q : ℕ) → q < r.held → (now q ≡ no_place) ⊎ (now q ≡ get_or r.previous q 0) → T (place_fits r (now q))
    step q l (inl e) = place_none r (now q) e
    step q l (inr e) = subst (λ (x : ℕ). T (place_fits r x)) (sym e) (f.previous q l)

-- a place is none, or below 128
low : (r : Round) (p : ℕ) → r.held ≤ max_held → T (place_fits r p) → (p ≡ no_place) ⊎ (p < max_held)
low r p most h = step (place_cases r p h)
  where
    step : (p ≡ no_place) ⊎ (p < r.held) → (p ≡ no_place) ⊎ (p < max_held)
    step (inl e) = inl e
    step (inr l) = inr (omega arith)

pub none_in_last_and_previous : NoneInLastAndPrevious
none_in_last_and_previous r h =
    let f = fits_out r h in
    record {
      nameless = refl;
      last_may = fits_in (with_recent r no_place r.recent) (last_may_lem r f);
      previous_may = λ p. fits_in (with_previous r p no_place) (previous_may_lem r p f);
      last = low r r.last f.most f.last;
      previous = λ p l. low r (get_or r.previous p 0) f.most (f.previous p l);
      references = narrow r f;
    }
