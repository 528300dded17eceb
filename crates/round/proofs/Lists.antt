-- Lists of calls: the invariant of proofs/Reached along a list, and the round that each report of a list was made on.
use mathlib.Core.Path.{◌≡◌, refl, sym, ap, subst, ◌∙◌}
use mathlib.Core.Logic.{◌⊎◌, inl, inr, ◌≢◌}
use mathlib.Core.Bool.{◌&&◌}
use mathlib.Core.List.Memᴰ
use mathlib.Core.List.{List, [], ◌∷◌}
use Prim.Native.Nat.{ℕ}
use native.Mathlib.Omega.{arith}
use lib.ListN.{length, take, drop}
use lib.Seq.{take-append_seam}
use lib.Dec.{T, eqb, eqb→eq}
use Rattle.std.specs.Prelude.{Ok, Err, Some, None}
use Rattle.base.specs.Tests.{◌∈◌}
use Rattle.base.proofs.Tests.{and_l, and_r, pick_head, pick_tail, pick_out}
use Rattle.base.specs.declared.refusal.Refusal.{Refusal}
use Rattle.message.specs.Writer.{fronted}
use Rattle.protocol.specs.Ids.{Id}
use Rattle.protocol.specs.Theorems.{Within}
use Rattle.protocol.specs.Table.{Table, tabulate}
use Rattle.round.specs.Round.{Round}
use Rattle.round.specs.Outcomes.{Outcome}
use Rattle.round.specs.Holdings.{record_at, table_of, is_known}
use Rattle.round.specs.Delivery as given
use Rattle.round.specs.Answers.{outcome_number, has_reply, reply_size, is_taken, Page, reported_number, reported_page}
use Rattle.round.specs.Lists.{Call, deliver, report, Seen, delivery, reporting, seen, after, run, last_round, accepted, written, pages}
use Rattle.round.specs.Premises.{IdRule}
use Rattle.round.proofs.CallLaws.{Fresh, CallLaws}
use Rattle.round.proofs.Answers.{number_taken, written_by, written_replied}
use Rattle.round.proofs.Kept.{Kept, kept_nil}
use Rattle.round.proofs.Reached.{Reached, Grows, grows_refl, grows_trans, step_grows, step_keeps}

-- ---- one call's part in what is accepted and written
pub refused_or_not : (o : Outcome) → ((e : Refusal) × (o ≡ Err e)) ⊎ ((e : Refusal) → o ≢ Err e)
refused_or_not (Err e) = inl (e, refl)
refused_or_not (Ok None) = inr (λ e d. let z : ◌≡◌ {A = ℕ} 0 1 = cc in omega arith)
refused_or_not (Ok (Some n)) = inr (λ e d. let z : ◌≡◌ {A = ℕ} 0 1 = cc in omega arith)

-- a reply is the front of the buffer
pub reply_in_front_lem : (z buffer : List ℕ) → take (length z) (fronted z buffer) ≡ z
reply_in_front_lem z buffer = take-append_seam z (drop (length z) buffer)

written_here : (o : Outcome) (z buffer : List ℕ) (l : List (List ℕ)) → o ≡ Ok (Some (length z)) → z ∈ written_by (fronted z buffer) l (outcome_number o)
written_here o z buffer l e =
    subst (λ (x : List (List ℕ)). z ∈ x) (sym (written_replied (fronted z buffer) l o (length z) e)) (Memᴰ.head (sym (reply_in_front_lem z buffer)))

pub accepted_tail : (s : Seen) (l : List Seen) (m : List ℕ) → m ∈ accepted l → m ∈ accepted (s ∷ l)
unfolding accepted
accepted_tail (delivery b n buffer) l m i = pick_tail (is_taken n) b m (accepted l) i
accepted_tail (reporting a n p) l m i = i

pub written_tail : (s : Seen) (l : List Seen) (m : List ℕ) → m ∈ written l → m ∈ written (s ∷ l)
unfolding written
written_tail (delivery b n buffer) l m i = pick_tail (has_reply n) (take (reply_size n) buffer) m (written l) i
written_tail (reporting a n p) l m i = i

-- ---- a report of a list
-- p is the page of a report for a, not turned down, on a round that the list passes through, from r to last
pub record Stands (H : List ℕ → Id) (A W : List (List ℕ)) (a : ℕ) (p : Page) (last : Round) : Type 0 where
  pub round : Round
  pub reached : Reached H A W round
  pub until : Grows round last
  pub taken : reported_number round a ≡ 0
  pub shows : p ≡ reported_page round a

page_cases : (H : List ℕ → Id) (r : Round) (c : Call) (a : ℕ) (p : Page) (l : List Seen) → p ∈ pages a (seen H r c ∷ l) → ((reported_number r a ≡ 0) × (p ≡ reported_page r a)) ⊎ (p ∈ pages a l)
unfolding pages
page_cases H r (deliver b buffer) a p l m = inr m
page_cases H r (report c) a p l m = step (pick_out (eqb c a && eqb (reported_number r c) 0) (reported_page r c) p (pages a l) m)
  where
    step : (T (eqb c a && eqb (reported_number r c) 0) × (p ≡ reported_page r c)) ⊎ (p ∈ pages a l) → ((reported_number r a ≡ 0) × (p ≡ reported_page r a)) ⊎ (p ∈ pages a l)
    step (inl (t, e)) =
        let same : c ≡ a = eqb→eq c a (and_l (eqb c a) (eqb (reported_number r c) 0) t) in
        let zero : reported_number r c ≡ 0 = eqb→eq (reported_number r c) 0 (and_r (eqb c a) (eqb (reported_number r c) 0) t) in
        inl (ap (reported_number r) (sym same) ∙ zero, e ∙ ap (reported_page r) same)
    step (inr m) = inr m

-- ---- along a list: A holds what is accepted in it, W what is written
module _ (laws : CallLaws) (H : List ℕ → Id) (rule : IdRule H) (A W : List (List ℕ)) where
  pub fresh_reached : {file : List ℕ} {r : Round} → Fresh file r → Reached H A W r
  unfolding tabulate
  fresh_reached {r = r} fresh = record {
    typed = fresh.typed;
    fitting = fresh.fitting;
    kept = let e : table_of r ≡ [] = ap (λ (n : ℕ). tabulate n (record_at r)) fresh.empty in
        subst (λ (t : Table). Kept H A W t (is_known r)) (sym e) (kept_nil H A W (is_known r));
  }

  pub call_keeps : (r : Round) (c : Call) (l : List Seen) → Reached H A W r → Within (accepted (seen H r c ∷ l)) A → Within (written (seen H r c ∷ l)) W
      → Reached H A W (after H r c) × Grows r (after H r c)
  unfolding accepted written
  call_keeps r (report a) l reached in_a inW = (reached, grows_refl r)
  call_keeps r (deliver b buffer) l reached in_a inW = step (refused_or_not (given.delivery H r b buffer).outcome)
    where
      step : ((e : Refusal) × ((given.delivery H r b buffer).outcome ≡ Err e)) ⊎ ((e : Refusal) → (given.delivery H r b buffer).outcome ≢ Err e)
          → Reached H A W (given.delivery H r b buffer).round × Grows r (given.delivery H r b buffer).round
      step (inl (e, d)) = subst (λ (s : Round). Reached H A W s × Grows r s) (sym (laws.refusal H r b buffer e d).0) (reached, grows_refl r)
      step (inr ne) =
          let s = laws.step H rule r reached.typed b buffer ne in (
            step_keeps H A W r b (given.delivery H r b buffer) (in_a b (pick_head (is_taken (outcome_number (given.delivery H r b buffer).outcome)) b (accepted l) (number_taken (given.delivery H r b buffer).outcome ne)))
                (λ e. inW (given.delivery H r b buffer).reply (written_here (given.delivery H r b buffer).outcome (given.delivery H r b buffer).reply buffer (written l) e)) s reached,
            step_grows s,
          )

  pub list_keeps : (r : Round) (l : List Call) → Reached H A W r → Within (accepted (run H r l)) A → Within (written (run H r l)) W
      → Reached H A W (last_round H r l) × Grows r (last_round H r l)
  unfolding run last_round
  list_keeps r [] reached in_a inW = (reached, grows_refl r)
  list_keeps r (c ∷ l) reached in_a inW =
      let (x, g) = call_keeps r c (run H (after H r c) l) reached in_a inW in
      let (y, h) = list_keeps (after H r c) l x (λ m i. in_a m (accepted_tail (seen H r c) (run H (after H r c) l) m i)) (λ m i. inW m (written_tail (seen H r c) (run H (after H r c) l) m i)) in
      (y, grows_trans g h)

  pub page_stands : (a : ℕ) (p : Page) (r : Round) (l : List Call) → Reached H A W r → Within (accepted (run H r l)) A → Within (written (run H r l)) W
      → p ∈ pages a (run H r l) → Stands H A W a p (last_round H r l)
  unfolding run last_round pages
  page_stands a p r [] reached in_a inW m = elim m [ ]
  page_stands a p r (c ∷ l) reached in_a inW m =
      let (y, g) = call_keeps r c (run H (after H r c) l) reached in_a inW in
      let inA' : Within (accepted (run H (after H r c) l)) A = λ n i. in_a n (accepted_tail (seen H r c) (run H (after H r c) l) n i) in
      let inW' : Within (written (run H (after H r c) l)) W = λ n i. inW n (written_tail (seen H r c) (run H (after H r c) l) n i) in
      step (grows_trans g (list_keeps (after H r c) l y inA' inW').1) (λ i. page_stands a p (after H r c) l y inA' inW' i) (page_cases H r c a p (run H (after H r c) l) m)
    where
      step : Grows r (last_round H (after H r c) l) → (p ∈ pages a (run H (after H r c) l) → Stands H A W a p (last_round H (after H r c) l))
          → ((reported_number r a ≡ 0) × (p ≡ reported_page r a)) ⊎ (p ∈ pages a (run H (after H r c) l)) → Stands H A W a p (last_round H (after H r c) l)
      step g rest (inl (n, e)) = record { round = r; reached = reached; until = g; taken = n; shows = e }
      step g rest (inr i) = rest i
