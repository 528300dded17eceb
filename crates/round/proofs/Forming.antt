-- No acceptor is mute on a message that lets it vote: it forms z from last sent, recent and the message that arrived, and sends it exactly where z is
-- well-formed.
use mathlib.Core.Path.{◌≡◌, refl, sym, ap, subst, ◌∙◌}
use mathlib.Core.Logic.{◌↔◌, ◌⊎◌, inl, inr}
use mathlib.Core.Bool.{Bool, true, false, not}
use mathlib.Core.Option.{Option, none, some}
use mathlib.Core.List.Memᴰ
use mathlib.Core.List.{List, [], ◌∷◌, ◌++◌, map}
use Prim.Native.Nat.{ℕ, ◌<◌}
use native.Mathlib.Omega.{arith}
use lib.Dec.{T, ltb, T_not}
use lib.ListN.{length}
use Rattle.std.specs.Prelude.{Ok, Some, None}
use Rattle.base.specs.Tests.{◌∈◌, pick}
use Rattle.base.proofs.Tests.{not_true}
use Rattle.graph.specs.Memory.{view_of}
use Rattle.message.specs.Reader.{reading}
use Rattle.message.specs.Writer.{fronted}
use Rattle.protocol.specs.Ids.{Id}
use Rattle.protocol.specs.WellFormed.{well_formed}
use Rattle.protocol.specs.Table.{Held, says, held_id, offered}
use Rattle.round.specs.Round.{Round}
use Rattle.round.specs.Limits.{max_held, listening}
use Rattle.round.specs.Holdings.{graph_of, is_voting, id_at, is_proposal_at, table_of, is_known, place_of}
use Rattle.round.specs.Rows.{placed, or_zero, is_awaited, message_of}
use Rattle.round.specs.Reply.{reply_places, reply_bytes, reply_record, is_sent}
use Rattle.round.specs.Delivery.{record_read, message_read, knowing, Effect, hold, entered_in, entered_at, sent, joins, answered, processed, delivery}
use Rattle.round.specs.Answers.{outcome_number, has_reply}
use Rattle.round.specs.Premises.{IdRule, Typed}
use Rattle.round.specs.Demands.{RecentId}
use Rattle.round.specs.ShutOut.{SentOff, SentNothing, Responds, AcceptedIsHeld, SentExactlyWhenFormed}
use Rattle.round.proofs.Step.{Appends}
use Rattle.round.proofs.Fitting.{Fitting}
use Rattle.round.proofs.Growing.{hold_appends}
use Rattle.round.proofs.Order.{ids_of}
use Rattle.round.proofs.Sending.{reply_canonical, reply_reads, reply_previous, reply_ids, reply_says}
use Rattle.round.proofs.Recent.{joined_ids, sent_ids}
use Rattle.round.proofs.Answering.{sent_law, storable, appends, last}
use Rattle.round.proofs.Accepting.{Accepts}
use Rattle.round.proofs.Entering.{Entered, room, says_before, entering}
use Rattle.round.proofs.OneDelivery.{taking}
use Rattle.round.proofs.Answers.{taken_number, number_replied}
use Rattle.round.proofs.Storing.{new_place, arrived_known}

-- ---- the message that arrived, which has the record h: it is held behind the others, or awaited its return
abbrev Holds : (List ℕ → Id) → Round → List ℕ → Held → Round → Type 0
Holds H r b h s = ((place_of r (H b) ≡ none) × (table_of s ≡ table_of r ++ h ∷ [])) ⊎ (T (is_awaited r (H b)) × (table_of s ≡ table_of r))

module _ (H : List ℕ → Id) (rule : IdRule H) (r : Round) (typed : Typed r) (fit : Fitting r) (b : List ℕ) (h : Held) (acc : Accepts H r b h) where
  is_new : Appends r (hold r h 1) h true
  is_new = hold_appends r typed fit (room H rule r typed fit b h acc) h acc.storable 1

  entered_holds : (o : Option ℕ) → place_of r (H b) ≡ o → Holds H r b h (entered_in r h o)
  entered_holds none e = inl (e, is_new.table)
  entered_holds (some p) e =
      inr (subst (λ (o : Option ℕ). T (placed (λ k. not (is_known r k)) o)) (sym e) (subst (λ (o : Option ℕ). T (not (placed (is_known r) o))) e acc.fresh.unknown), refl)

  -- its place is the one that its id names
  entered_place : (o : Option ℕ) → place_of r (H b) ≡ o → place_of (entered_in r h o) (H b) ≡ some (entered_at r o)
  unfolding place_of
  entered_place none e =
      let id = acc.records.id in
      subst (λ (i : Id). place_of (hold r h 1) i ≡ some r.held) id
      (new_place r (hold r h 1) h (ap (place_of r) id ∙ e) is_new)
  entered_place (some p) e = e

-- ---- s is r with the message known, at place p
module _ (H : List ℕ → Id) (rule : IdRule H) (r s : Round) (b : List ℕ) (p : ℕ) (in' : Entered H r s b p) (voting : T (is_voting s)) (place : place_of s (H b) ≡ some p) where
  abbrev z : List ℕ
  z = reply_bytes s p

  abbrev h : Held
  h = reply_record s (H z) p

  free : s.held < max_held
  free = in'.free voting

  -- places that their ids name are found again by these ids
  places_back : (l : List ℕ) → ((j : ℕ) → j ∈ l → place_of s (id_at s j) ≡ some j) → map (λ i. or_zero (place_of s i)) (ids_of s l) ≡ l
  places_back [] f = refl
  places_back (j ∷ l) f = λ i. or_zero (f j (Memᴰ.head refl) i) ∷ places_back l (λ k m. f k (Memᴰ.tail m)) i

  -- what the bytes of z say is what was formed
  record_is : record_read H s z (reading z) ≡ h
  record_is =
      ap (record_read H s z) (reply_reads s in'.typed in'.fitting p in'.here)
      ∙ (λ i. says (H z) s.own (reply_previous s in'.typed in'.fitting p in'.here i)
      ((ap (map (λ k. or_zero (place_of s k))) (reply_ids s in'.typed in'.fitting p in'.here)
      ∙ places_back (reply_places s p) (reply_canonical s in'.typed in'.fitting p in'.here)) i))

  abbrev Formed : Type 0
  Formed = T (well_formed (graph_of r) (message_read H s z))

  test : is_sent s (message_of s h) ≡ well_formed (graph_of r) (message_read H s z)
  test =
      let graph = sym in'.arrives.same.graph in
      let read = sym record_is in
      sent_law s (message_of s h) ∙ (λ i. well_formed (view_of (graph i)) (message_of s (read i)))

  off : SentOff H s z (sent H s p z)
  unfolding held_id offered
  off =
      let a = appends H rule s in'.typed in'.fitting voting free p in'.here in
      record {
        answers = refl;
        writes = refl;
        holds = a.table ∙ ap (λ (x : Held). table_of s ++ x ∷ []) (sym record_is);
        awaits = subst (λ (c : Bool). T (not c)) (sym a.new) tt;
        last = last H rule s in'.typed in'.fitting voting free p in'.here;
        recent = sent_ids s in'.typed in'.fitting free h (storable H rule s in'.typed in'.fitting voting free p in'.here) tt;
      }

  -- the message is no proposal, by the place that its id names
  abbrev IsVote : Option ℕ → Type 0
  IsVote o = T (placed (λ k. not (is_proposal_at s k)) o)

  quiet : SentNothing r s (H b) (joins H s p)
  quiet =
      record {
        answers = refl;
        last = in'.arrives.last;
        holds = refl;
        recent = λ i.
            let (to, from) = joined_ids s p in'.typed.recent_size (omega (arith, in'.fitting.most, in'.here)) in'.here i in
            (λ x. before i (to x), λ x. from (after i x));
      }
    where
      before : (i : Id) → RecentId s i ⊎ ((i ≡ id_at s p) × IsVote (some p)) → RecentId r i ⊎ ((i ≡ H b) × IsVote (place_of s (H b)))
      before i (inl x) = inl (in'.recent.before i x)
      before i (inr (e, t)) = inr (e ∙ in'.recent.id, subst IsVote (sym place) t)

      after : (i : Id) → RecentId r i ⊎ ((i ≡ H b) × IsVote (place_of s (H b))) → RecentId s i ⊎ ((i ≡ id_at s p) × IsVote (some p))
      after i (inl x) = inl (in'.recent.after i x)
      after i (inr (e, t)) = inr (e ∙ sym in'.recent.id, subst IsVote place t)

  by : (c : Bool) → c ≡ well_formed (graph_of r) (message_read H s z) → Responds H r s b (pick c (sent H s p z) (joins H s p))
  by c e =
      record {
        z = z;
        forms = says_before H r s b p in' z (reply_says s in'.typed in'.fitting p in'.here);
        exactly = exactly c (subst (λ (x : Bool). T c ↔ T x) e (λ t. t, λ t. t));
        sent = sends c;
        silent = keeps c;
      }
    where
      replies : T (has_reply (outcome_number (Ok (Some (length z)))))
      replies = number_replied (Ok (Some (length z))) (length z) refl

      exactly : (c : Bool) → T c ↔ Formed → T (has_reply (outcome_number (pick c (sent H s p z) (joins H s p)).outcome)) ↔ Formed
      exactly true e = (λ _. e.0 tt, λ _. replies)
      exactly false e = (λ t. absurd t, λ f. absurd (e.1 f))

      sends : (c : Bool) → T (has_reply (outcome_number (pick c (sent H s p z) (joins H s p)).outcome)) → SentOff H s z (pick c (sent H s p z) (joins H s p))
      sends true t = off
      sends false t = absurd t

      keeps : (c : Bool) → T (not (has_reply (outcome_number (pick c (sent H s p z) (joins H s p)).outcome))) → SentNothing r s (H b) (pick c (sent H s p z) (joins H s p))
      keeps true k = absurd (T_not (has_reply (outcome_number (Ok (Some (length z))))) k replies)
      keeps false k = quiet

  pick_first : (c : Bool) (x y : Effect) → T c → pick c x y ≡ x
  pick_first true x y t = refl
  pick_first false x y t = absurd t

  responds : Responds H r s b (processed H s p)
  unfolding processed
  responds =
      subst (λ (d : Effect). Responds H r s b d) (sym (pick_first (is_voting s) (answered H s p z) (record { outcome = Ok None; round = s; reply = [] }) voting))
      (by (is_sent s (message_of s h)) test)

pub sent_exactly_when_formed : SentExactlyWhenFormed
sent_exactly_when_formed H rule r typed voting b buffer kept =
    let (fit, t) = taking H rule r b buffer (taken_number (delivery H r b buffer).outcome kept) in
    let o = place_of r (H b) in
    let h = record_read H r b (reading b) in
    let w = entering H rule r typed fit b h t.accepts o refl in
    subst (λ (d : Effect). Responds H r (knowing H r b) b d) (sym t.enters)
    (responds H rule r (entered_in r h o) b (entered_at r o) w (subst (λ (n : ℕ). T (ltb n listening)) w.arrives.same.own voting) (entered_place H rule r typed fit b h t.accepts o refl))

-- ---- what is accepted is held, and a round that listens does no more
pub accepted_is_held : AcceptedIsHeld
unfolding processed
accepted_is_held H rule r typed b buffer kept =
    let (fit, t) = taking H rule r b buffer (taken_number (delivery H r b buffer).outcome kept) in
    let o = place_of r (H b) in
    let h = record_read H r b (reading b) in
    let w = entering H rule r typed fit b h t.accepts o refl in
    let s = entered_in r h o in (
      record { known = arrived_known H r s b w.arrives; holds = entered_holds H rule r typed fit b h t.accepts o refl },
      λ listens.
          let silent : is_voting s ≡ false = not_true (is_voting s) (subst (λ (n : ℕ). T (not (ltb n listening))) w.arrives.same.own listens) in
          let d : delivery H r b buffer ≡ record { outcome = Ok None; round = s; reply = [] } =
          t.enters ∙ ap (λ (c : Bool). pick c (answered H s (entered_at r o) (reply_bytes s (entered_at r o))) (record { outcome = Ok None; round = s; reply = [] })) silent in
          (ap (λ (x : Effect). outcome_number x.outcome) d, ap (λ (x : Effect). x.round) d, ap (λ (x : Effect). fronted x.reply buffer) d),
    )
