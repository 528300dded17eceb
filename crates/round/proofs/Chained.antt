-- All along a list of calls last sent is in recent, so each written message refers to the previous one that it names; it is the own acceptor's; and
-- recent holds no proposal.
use mathlib.Core.Path.{◌≡◌, refl, sym, subst, ◌∙◌}
use mathlib.Core.Logic.{◌⊎◌, inl, inr, ◌≢◌}
use mathlib.Core.Option.{none}
use mathlib.Core.List.Memᴰ
use mathlib.Core.List.{List, [], ◌∷◌}
use Prim.Native.Nat.{ℕ}
use native.Mathlib.Omega.{arith}
use lib.ListN.{take}
use Rattle.std.specs.Prelude.{Ok, Err, Some, None}
use Rattle.base.specs.Tests.{◌∈◌}
use Rattle.base.specs.declared.refusal.Refusal.{Refusal}
use Rattle.protocol.specs.Ids.{Id}
use Rattle.round.specs.Round.{Round}
use Rattle.round.specs.Outcomes.{Outcome}
use Rattle.round.specs.Holdings.{named}
use Rattle.round.specs.Delivery.{delivery, replied}
use Rattle.round.specs.Answers.{outcome_number}
use Rattle.round.specs.Lists.{Call, deliver, report, after, run, last_round, written}
use Rattle.round.specs.Premises.{IdRule, Starts, Typed}
use Rattle.round.specs.Demands.{ReplySays, OwnChained, ReplyIsChained, RecentHoldsVotes}
use Rattle.round.proofs.Answers.{written_by, written_refused, written_replied}
use Rattle.round.proofs.Recent.{RecentHolds}
use Rattle.round.proofs.OneDelivery.{tells}
use Rattle.round.proofs.OneCall.{refused_leaves_all_lem, reply_reads_back_lem}
use Rattle.round.proofs.JustOpened.{opened_round}
use Rattle.round.proofs.Reached.{step_grows}
use Rattle.round.proofs.Lists.{refused_or_not}

chained_reply : (r : Round) (m : Id) (z : List ℕ) → RecentHolds r → ReplySays r m z → OwnChained r.own z
chained_reply r m z inv (f, read, house, bay, own, last, refs) = (f, read, own, λ i e. (refs i).1 (inr (inv.last i (sym last ∙ e))))

pub written_cases : (o : Outcome) (buffer : List ℕ) (l : List (List ℕ)) (z : List ℕ) → z ∈ written_by buffer l (outcome_number o) → ((n : ℕ) × (o ≡ Ok (Some n)) × (z ≡ take n buffer)) ⊎ (z ∈ l)
written_cases (Err e) buffer l z m = inr (subst (λ (x : List (List ℕ)). z ∈ x) (written_refused buffer l (Err e) e refl) m)
written_cases (Ok None) buffer l z m = inr m
written_cases (Ok (Some n)) buffer l z m = step (subst (λ (x : List (List ℕ)). z ∈ x) (written_replied buffer l (Ok (Some n)) n refl) m)
  where
    step : z ∈ take n buffer ∷ l → ((k : ℕ) × (◌≡◌ {A = Outcome} (Ok (Some n)) (Ok (Some k))) × (z ≡ take k buffer)) ⊎ (z ∈ l)
    step (Memᴰ.head e) = inl (n, refl, e)
    step (Memᴰ.tail i) = inr i

-- THE INVARIANT of a round reached by calls on the acceptor `own`: its numbers are those that its types can hold, it is that acceptor's, and recent is
-- as proofs/Recent says
record Holds (own : ℕ) (r : Round) : Type 0 where
  typed : Typed r
  owned : r.own ≡ own
  recent : RecentHolds r

module _ (H : List ℕ → Id) (rule : IdRule H) (own : ℕ) where
  -- ---- each call keeps it
  call_keeps : (r : Round) (c : Call) → Holds own r → Holds own (after H r c)
  call_keeps r (report a) inv = inv
  call_keeps r (deliver b buffer) inv = step (refused_or_not (delivery H r b buffer).outcome)
    where
      step : ((e : Refusal) × ((delivery H r b buffer).outcome ≡ Err e)) ⊎ ((e : Refusal) → (delivery H r b buffer).outcome ≢ Err e)
          → Holds own (delivery H r b buffer).round
      step (inl (e, d)) = subst (Holds own) (sym (refused_leaves_all_lem H r b buffer e d).0) inv
      step (inr kept) =
          let t = tells H rule r inv.typed b buffer kept in
          record { typed = t.step.typed; owned = sym (step_grows t.step).same.own ∙ inv.owned; recent = t.recent inv.recent }

  -- ---- so each written message of a list is chained
  replies_chained : (l : List Call) (r : Round) → Holds own r → (z : List ℕ) → z ∈ written (run H r l) → OwnChained own z
  unfolding run written
  replies_chained [] r inv z m = elim m [ ]
  replies_chained (report a ∷ l) r inv z m = replies_chained l r inv z m
  replies_chained (deliver b buffer ∷ l) r inv z m =
      step (replies_chained l (delivery H r b buffer).round (call_keeps r (deliver b buffer) inv) z)
      (written_cases (delivery H r b buffer).outcome (replied H r b buffer) (written (run H (delivery H r b buffer).round l)) z m)
    where
      step : (z ∈ written (run H (delivery H r b buffer).round l) → OwnChained own z)
          → ((n : ℕ) × ((delivery H r b buffer).outcome ≡ Ok (Some n)) × (z ≡ take n (replied H r b buffer))) ⊎ (z ∈ written (run H (delivery H r b buffer).round l))
          → OwnChained own z
      step rest (inl (n, d, e)) =
          let said = chained_reply r (H b) (take n (replied H r b buffer)) inv.recent (reply_reads_back_lem H rule r inv.typed b buffer n d) in
          subst (λ (p : ℕ). OwnChained p z) inv.owned (subst (OwnChained r.own) (sym e) said)
      step rest (inr k) = rest k

  list_holds : (l : List Call) (r : Round) → Holds own r → Holds own (last_round H r l)
  unfolding last_round
  list_holds [] r inv = inv
  list_holds (c ∷ l) r inv = list_holds l (after H r c) (call_keeps r c inv)

-- a round that was just opened has sent nothing and holds nothing
nothing_yet : (r : Round) → named r r.last ≡ none → r.held ≡ 0 → RecentHolds r
nothing_yet r e z = record { last = λ i d. let z : ◌≡◌ {A = ℕ} 0 1 = cc in absurd (omega arith); votes = λ q l. absurd (omega arith) }

opened_holds : (file : List ℕ) (house bay own : ℕ) (r : Round) → Starts file house bay own r → Holds own r
opened_holds file house bay own r starts =
    let o = opened_round file house bay own r starts in
    record { typed = o.typed; owned = o.own'; recent = nothing_yet r o.last o.held }

pub reply_is_chained : ReplyIsChained
reply_is_chained H rule file house bay own r starts l z m = replies_chained H rule own l r (opened_holds file house bay own r starts) z m

pub recent_holds_votes : RecentHoldsVotes
recent_holds_votes H rule file house bay own r starts l q = (list_holds H rule own l r (opened_holds file house bay own r starts)).recent.votes q
