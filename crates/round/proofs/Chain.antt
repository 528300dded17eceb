-- Demand 3, the chain of replies: what is last sent is the message written last, or none, all along a list of calls. So each written message names
-- none or a written one.
use mathlib.Core.Path.{◌≡◌, refl, sym, ap, subst, ◌∙◌}
use mathlib.Core.Logic.{◌⊎◌, inl, inr, ◌≢◌}
use mathlib.Core.Option.{Option, none, some}
use mathlib.Core.List.Memᴰ
use mathlib.Core.List.{List, [], ◌∷◌}
use Prim.Native.Nat.{ℕ}
use native.Mathlib.Omega.{arith}
use lib.ListN.{length, take}
use Rattle.std.specs.Prelude.{Ok, Err, Some, None}
use Rattle.base.specs.Tests.{◌∈◌}
use Rattle.base.specs.declared.refusal.Refusal.{Refusal}
use Rattle.message.specs.Reader.{reading}
use Rattle.message.specs.Writer.{fronted}
use Rattle.message.specs.declared.AcceptorMessage.{AcceptorMessage}
use Rattle.message.specs.declared.Message.TheVariants.{OfAcceptor}
use Rattle.protocol.specs.Ids.{Id}
use Rattle.protocol.specs.Theorems.{Within}
use Rattle.round.specs.Round.{Round}
use Rattle.round.specs.Outcomes.{Outcome}
use Rattle.round.specs.Holdings.{named}
use Rattle.round.specs.Rows.{previous_id}
use Rattle.round.specs.Delivery.{Effect, delivery, replied}
use Rattle.round.specs.Answers.{outcome_number}
use Rattle.round.specs.Lists.{Call, deliver, report, run, written}
use Rattle.round.specs.Premises.{IdRule, Starts, Typed}
use Rattle.round.specs.Demands.{Names, ChainFrom, ChainOfReplies}
use Rattle.round.proofs.Step.{Silent, Sends, Step}
use Rattle.round.proofs.Answers.{written_by, written_silent, written_refused, written_replied}
use Rattle.round.proofs.CallLaws.{CallLaws}
use Rattle.round.proofs.Kept.{IdFrom}
use Rattle.round.proofs.Lists.{refused_or_not, reply_in_front_lem}

-- ---- what one call adds to the written messages `rest` of the calls behind it. p is last sent before the call, q after it.
module _ (H : List ℕ → Id) (p q : Option Id) (rest : List (List ℕ)) (chain : ChainFrom H q rest) where
  chain_refused : (o : Outcome) (e : Refusal) (buffer : List ℕ) → o ≡ Err e → q ≡ p → ChainFrom H p (written_by buffer rest (outcome_number o))
  chain_refused o e buffer d s = subst (ChainFrom H p) (sym (written_refused buffer rest o e d)) (subst (λ (n : Option Id). ChainFrom H n rest) s chain)

  chain_silent : (o : Outcome) (buffer : List ℕ) → o ≡ Ok None → q ≡ p → ChainFrom H p (written_by buffer rest (outcome_number o))
  chain_silent o buffer d s = subst (ChainFrom H p) (sym (written_silent buffer rest o d)) (subst (λ (n : Option Id). ChainFrom H n rest) s chain)

  chain_sends : (o : Outcome) (z buffer : List ℕ) → o ≡ Ok (Some (length z)) → q ≡ some (H z) → Names z p → ChainFrom H p (written_by (fronted z buffer) rest (outcome_number o))
  unfolding ChainFrom
  chain_sends o z buffer d s names =
      let front : z ≡ take (length z) (fronted z buffer) = sym (reply_in_front_lem z buffer) in
      let whole : ChainFrom H p (z ∷ rest) = (names, subst (λ (n : Option Id). ChainFrom H n rest) s chain) in
      subst (ChainFrom H p) (sym (written_replied (fronted z buffer) rest o (length z) d)) (subst (λ (y : List ℕ). ChainFrom H p (y ∷ rest)) front whole)

  chain_step : (r : Round) (b buffer : List ℕ) (d : Effect) → Step H r b d → p ≡ named r r.last → q ≡ named d.round d.round.last
      → ChainFrom H p (written_by (fronted d.reply buffer) rest (outcome_number d.outcome))
  chain_step r b buffer d s before after = step s.answers
    where
      sofar : p ≡ named s.between s.between.last
      sofar = before ∙ sym s.arrives.last

      step : Silent s.between d.round d.outcome d.reply ⊎ Sends H s.between d.round d.outcome d.reply
          → ChainFrom H p (written_by (fronted d.reply buffer) rest (outcome_number d.outcome))
      step (inl e) = chain_silent d.outcome (fronted d.reply buffer) e.outcome (after ∙ e.last ∙ sym sofar)
      step (inr e) = chain_sends d.outcome d.reply buffer e.outcome (after ∙ e.last) (subst (λ (n : Option Id). Names d.reply n) (sym sofar) e.names)

module _ (laws : CallLaws) where
  chain_from : (H : List ℕ → Id) → IdRule H → (l : List Call) (r : Round) → Typed r → ChainFrom H (named r r.last) (written (run H r l))
  unfolding run written ChainFrom
  chain_from H rule [] r typed = tt
  chain_from H rule (report a ∷ l) r typed = chain_from H rule l r typed
  chain_from H rule (deliver b buffer ∷ l) r typed = step (λ s t. chain_from H rule l s t) (refused_or_not (delivery H r b buffer).outcome)
    where
      step : ((s : Round) → Typed s → ChainFrom H (named s s.last) (written (run H s l)))
          → ((e : Refusal) × ((delivery H r b buffer).outcome ≡ Err e)) ⊎ ((e : Refusal) → (delivery H r b buffer).outcome ≢ Err e)
          → ChainFrom H (named r r.last) (written_by (replied H r b buffer) (written (run H (delivery H r b buffer).round l)) (outcome_number (delivery H r b buffer).outcome))
      step rest (inl (e, d)) =
          let same : (delivery H r b buffer).round ≡ r = (laws.refusal H r b buffer e d).0 in
          chain_refused H (named r r.last) (named (delivery H r b buffer).round (delivery H r b buffer).round.last) (written (run H (delivery H r b buffer).round l))
          (rest (delivery H r b buffer).round (subst Typed (sym same) typed))
          (delivery H r b buffer).outcome e (replied H r b buffer) d (ap (λ (s : Round). named s s.last) same)
      step rest (inr ne) =
          let s : Step H r b (delivery H r b buffer) = laws.step H rule r typed b buffer ne in
          chain_step H (named r r.last) (named (delivery H r b buffer).round (delivery H r b buffer).round.last) (written (run H (delivery H r b buffer).round l))
          (rest (delivery H r b buffer).round s.typed) r b buffer (delivery H r b buffer) s refl refl

  pub chain_of_list : (H : List ℕ → Id) → IdRule H → (file : List ℕ) (house bay own : ℕ) (r : Round) → Starts file house bay own r
      → (l : List Call) → ChainFrom H none (written (run H r l))
  chain_of_list H rule file house bay own r starts l =
      let fresh = laws.opening file house bay own r starts in
      subst (λ (n : Option Id). ChainFrom H n (written (run H r l))) fresh.unsent (chain_from H rule l r fresh.typed)

  -- THE CHAIN OF REPLIES
  pub chain_of_replies : ChainOfReplies
  chain_of_replies H rule file house bay own r starts voting l = chain_of_list H rule file house bay own r starts l

-- ---- so each written message names none or a written one
named_before : (H : List ℕ → Id) (p : Option Id) (W l : List (List ℕ)) → ((i : Id) → p ≡ some i → IdFrom H W i) → Within l W → ChainFrom H p l
    → (z : List ℕ) → z ∈ l → (f : AcceptorMessage) → reading z ≡ Ok (OfAcceptor f) → (i : Id) → previous_id z f ≡ some i → IdFrom H W i
unfolding ChainFrom
named_before H p W [] before inW chain z m f read i e = elim m [ ]
named_before H p W (y ∷ l) before inW ((g, said, names), chain) z m f read i e = step (λ k. named_before H (some (H y)) W l next (λ x k. inW x (Memᴰ.tail k)) chain z k f read i e) m
  where
    next : (j : Id) → some (H y) ≡ some j → IdFrom H W j
    next j d = (y, inW y (Memᴰ.head refl), cc)

    step : (z ∈ l → IdFrom H W i) → z ∈ y ∷ l → IdFrom H W i
    step rest (Memᴰ.head q) =
        let one : Ok (OfAcceptor f) ≡ Ok (OfAcceptor g) = sym read ∙ ap reading q ∙ said in
        let same : f ≡ g = cc in
        before i (sym names ∙ sym (λ j. previous_id (q j) (same j)) ∙ e)
    step rest (Memᴰ.tail k) = rest k

pub written_names_written : (H : List ℕ → Id) (W : List (List ℕ)) → ChainFrom H none W
    → (z : List ℕ) → z ∈ W → (f : AcceptorMessage) → reading z ≡ Ok (OfAcceptor f) → (i : Id) → previous_id z f ≡ some i → IdFrom H W i
written_names_written H W chain = named_before H none W W (λ i e. let x : ◌≡◌ {A = ℕ} 0 1 = cc in absurd (omega arith)) (λ m k. k) chain
