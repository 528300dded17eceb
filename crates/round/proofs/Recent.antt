-- Recent: a vote that is not answered joins it and a proposal never does, and last sent stays in it.
use mathlib.Core.Path.{◌≡◌, refl, sym, ap, subst, ◌∙◌}
use mathlib.Core.Logic.{◌⊎◌, inl, inr, ◌↔◌}
use mathlib.Core.Bool.{Bool, true, false, not}
use mathlib.Core.Option.{none, some}
use mathlib.Core.List.{List}
use Prim.Native.Nat.{ℕ, ◌+◌, ◌<◌}
use native.Mathlib.Omega.{arith}
use lib.Dec.{T, eqb, eqb→eq}
use lib.ListN.{length, get_or, set, replicate, length-set, length-replicate}
use lib.Seq.{get_or-set_same, get_or-set_other}
use Rattle.base.specs.Tests.{pick}
use Rattle.base.proofs.Tests.{dec_T, neqb→ne}
use Rattle.message.specs.Layout.{proposal_kind}
use Rattle.protocol.specs.Ids.{Id}
use Rattle.protocol.specs.Table.{Held, held_id, offered}
use Rattle.round.specs.Round.{Round}
use Rattle.round.specs.Limits.{max_held, no_place}
use Rattle.round.specs.Holdings.{id_at, named, is_recent, is_proposal_at}
use Rattle.round.specs.Delivery.{hold, with_recent, recent_with}
use Rattle.round.specs.Premises.{Typed}
use Rattle.round.specs.Demands.{RecentId}
use Rattle.round.proofs.Fitting.{Fitting, named_kept}
use Rattle.round.proofs.Holding.{Storable, hold_is}
use Rattle.round.proofs.Growing.{hold_keeps, hold_appends, hold_last, hold_kind, hold_id}
use Rattle.round.proofs.GraphFits.{zeros_at}

-- THE INVARIANT of a round reached by calls: as long as there is a last sent message, it is in recent, so the next reply refers to it; and
-- no proposal is in recent.
pub record RecentHolds (r : Round) : Type 0 where
  pub last : (i : Id) → named r r.last ≡ some i → RecentId r i
  pub votes : (q : ℕ) → q < r.held → T (is_recent r q) → T (not (is_proposal_at r q))

-- ---- "m joins recent unless it is a proposal"
module _ (r : Round) (p : ℕ) where
  proposal_ignored : T (is_proposal_at r p) → recent_with r p ≡ r.recent
  proposal_ignored t = by (is_proposal_at r p) t
    where
      by : (b : Bool) → T b → pick b r.recent (set r.recent p 1) ≡ r.recent
      by true h = refl
      by false h = absurd h

  vote_joins : T (not (is_proposal_at r p)) → recent_with r p ≡ set r.recent p 1
  vote_joins t = by (is_proposal_at r p) t
    where
      by : (b : Bool) → T (not b) → pick b r.recent (set r.recent p 1) ≡ set r.recent p 1
      by true h = absurd h
      by false h = refl

  -- so what holds of recent, and of it with a vote joined, holds then
  joined_cases : (P : List ℕ → Type 0) → P r.recent → (T (not (is_proposal_at r p)) → P (set r.recent p 1)) → P (recent_with r p)
  joined_cases P h k = step (dec_T (is_proposal_at r p))
    where
      step : T (is_proposal_at r p) ⊎ T (not (is_proposal_at r p)) → P (recent_with r p)
      step (inl t) = subst P (sym (proposal_ignored t)) h
      step (inr t) = subst P (sym (vote_joins t)) (k t)

  pub joined_size : length r.recent ≡ max_held → length (recent_with r p) ≡ max_held
  joined_size e = joined_cases (λ l. length l ≡ max_held) e (λ t. length-set r.recent p 1 ∙ e)

  abbrev Marked : List ℕ → ℕ → Type 0
  Marked l q = T (not (eqb (get_or l q 0) 0))

  set_marked : length r.recent ≡ max_held → p < max_held → (q : ℕ) → Marked r.recent q → Marked (set r.recent p 1) q
  set_marked size inside q t = step (dec_T (eqb q p))
    where
      step : T (eqb q p) ⊎ T (not (eqb q p)) → Marked (set r.recent p 1) q
      step (inl x) = subst (λ (n : ℕ). T (not (eqb n 0)))
          (sym (ap (λ (y : ℕ). get_or (set r.recent p 1) y 0) (eqb→eq q p x) ∙ get_or-set_same r.recent p 1 0 (omega arith))) tt
      step (inr x) = subst (λ (n : ℕ). T (not (eqb n 0))) (sym (get_or-set_other r.recent p q 1 0 (neqb→ne q p x))) t

  marked_set : T (not (is_proposal_at r p)) → (q : ℕ) → (Marked r.recent q → T (not (is_proposal_at r q))) → Marked (set r.recent p 1) q → T (not (is_proposal_at r q))
  marked_set v q old t = step (dec_T (eqb q p))
    where
      step : T (eqb q p) ⊎ T (not (eqb q p)) → T (not (is_proposal_at r q))
      step (inl x) = subst (λ (k : ℕ). T (not (is_proposal_at r k))) (sym (eqb→eq q p x)) v
      step (inr x) = old (subst (λ (n : ℕ). T (not (eqb n 0))) (get_or-set_other r.recent p q 1 0 (neqb→ne q p x)) t)

  pub joined_holds : length r.recent ≡ max_held → p < max_held → RecentHolds r → RecentHolds (with_recent r r.last (recent_with r p))
  joined_holds size inside inv =
      record {
        last = λ i e.
            let (q, l, t, k) = inv.last i e in
            (q, l, joined_cases (λ x. Marked x q) t (λ v. set_marked size inside q t), k);
        votes = λ q l. joined_cases (λ x. Marked x q → T (not (is_proposal_at r q))) (inv.votes q l) (λ v. marked_set v q (inv.votes q l));
      }

  -- its ids then: those that were in it, and that of p where p holds a vote
  pub joined_ids : length r.recent ≡ max_held → p < max_held → p < r.held → (i : Id)
      → RecentId (with_recent r r.last (recent_with r p)) i ↔ (RecentId r i ⊎ ((i ≡ id_at r p) × T (not (is_proposal_at r p))))
  joined_ids size inside here i = (λ (q, l, t, e). joined_cases (λ x. Marked x q → Then) (λ m. inl (q, l, m, e)) (λ v m. other q l e v m (dec_T (eqb q p))) t, from)
    where
      Then : Type 0
      Then = RecentId r i ⊎ ((i ≡ id_at r p) × T (not (is_proposal_at r p)))

      other : (q : ℕ) → q < r.held → id_at r q ≡ i → T (not (is_proposal_at r p)) → Marked (set r.recent p 1) q → T (eqb q p) ⊎ T (not (eqb q p)) → Then
      other q l e v m (inl x) = inr (sym e ∙ ap (id_at r) (eqb→eq q p x), v)
      other q l e v m (inr x) = inl (q, l, subst (λ (n : ℕ). T (not (eqb n 0))) (get_or-set_other r.recent p q 1 0 (neqb→ne q p x)) m, e)

      from : Then → RecentId (with_recent r r.last (recent_with r p)) i
      from (inl (q, l, t, e)) = (q, l, joined_cases (λ x. Marked x q) t (λ v. set_marked size inside q t), e)
      from (inr (e, v)) = (
        p,
        here,
        subst (λ (x : List ℕ). Marked x p) (sym (vote_joins v))
            (subst (λ (n : ℕ). T (not (eqb n 0))) (sym (get_or-set_same r.recent p 1 0 (omega arith))) tt),
        sym e,
      )

-- ---- a record put behind the held ones is not in recent
module _ (r : Round) (typed : Typed r) (fit : Fitting r) (room : r.held < max_held) (h : Held) (can : Storable r h) (k : ℕ) where
  abbrev s : Round
  s = hold r h k

  held : s.held ≡ r.held + 1
  held = (hold_appends r typed fit room h can k).held

  old_recent : (q : ℕ) → q < r.held → is_recent s q ≡ is_recent r q
  old_recent q l =
      ap (λ (x : Round). is_recent x q) (hold_is r h k)
      ∙ ap (λ (n : ℕ). not (eqb n 0)) (get_or-set_other r.recent r.held q 0 0 (λ e. absurd (omega arith)))

  new_recent : is_recent s r.held ≡ false
  new_recent =
      ap (λ (x : Round). is_recent x r.held) (hold_is r h k)
      ∙ ap (λ (n : ℕ). not (eqb n 0)) (get_or-set_same r.recent r.held 0 0 (omega (arith, typed.recent_size)))

  pub recent_stays : (i : Id) → RecentId r i → RecentId s i
  recent_stays i (q, l, t, e) = (q, omega (arith, held), subst T (sym (old_recent q l)) t, (hold_keeps r typed fit room h can k).ids q l ∙ e)

  pub recent_before : (i : Id) → RecentId s i → RecentId r i
  recent_before i (q, l, t, e) = step (dec_T (eqb q r.held))
    where
      step : T (eqb q r.held) ⊎ T (not (eqb q r.held)) → RecentId r i
      step (inl x) = absurd (subst T (ap (is_recent s) (eqb→eq q r.held x) ∙ new_recent) t)
      step (inr x) =
          let w : q < r.held = omega (arith, held, neqb→ne q r.held x) in
          (q, w, subst T (old_recent q w) t, sym ((hold_keeps r typed fit room h can k).ids q w) ∙ e)

  pub held_holds : RecentHolds r → RecentHolds s
  held_holds inv =
      record {
        last = λ i e.
            recent_stays i (inv.last i (sym (ap (named s) (hold_last r typed fit room h can k) ∙ named_kept r s (hold_keeps r typed fit room h can k) r.last fit.last) ∙ e));
        votes = λ q l t. at_place q l t (dec_T (eqb q r.held));
      }
    where
      at_place : (q : ℕ) → q < s.held → T (is_recent s q) → T (eqb q r.held) ⊎ T (not (eqb q r.held)) → T (not (is_proposal_at s q))
      at_place q l t (inl x) = absurd (subst T (ap (is_recent s) (eqb→eq q r.held x) ∙ new_recent) t)
      at_place q l t (inr x) =
          let w : q < r.held = omega (arith, held, neqb→ne q r.held x) in
          subst (λ (n : ℕ). T (not (eqb n proposal_kind))) (sym ((hold_keeps r typed fit room h can k).kinds q w)) (inv.votes q w (subst T (old_recent q w) t))

-- ---- "recent becomes {z}", z the vote h put behind the held ones and last sent
module _ (r : Round) (typed : Typed r) (fit : Fitting r) (room : r.held < max_held) (h : Held) (can : Storable r h) (vote : T (not (offered h))) where
  abbrev only : List ℕ
  only = set (replicate max_held 0) r.held 1

  abbrev t : Round
  t = with_recent (hold r h 0) r.held only

  marked_only : (q : ℕ) → T (not (eqb (get_or only q 0) 0)) → q ≡ r.held
  marked_only q m = step (dec_T (eqb q r.held))
    where
      step : T (eqb q r.held) ⊎ T (not (eqb q r.held)) → q ≡ r.held
      step (inl x) = eqb→eq q r.held x
      step (inr x) = absurd (subst (λ (n : ℕ). T (not (eqb n 0))) (get_or-set_other (replicate max_held 0) r.held q 1 0 (neqb→ne q r.held x) ∙ zeros_at max_held q) m)

  same_id_lem : (i : Id) → pick (eqb r.held no_place) none (some (id_at (hold r h 0) r.held)) ≡ some i → id_at (hold r h 0) r.held ≡ i
  same_id_lem i e = by (eqb r.held no_place) e
    where
      by : (b : Bool) → pick b none (some (id_at (hold r h 0) r.held)) ≡ some i → id_at (hold r h 0) r.held ≡ i
      by true e = let z : ◌≡◌ {A = ℕ} 0 1 = cc in absurd (omega arith)
      by false e = cc

  -- z is all that is in recent
  pub sent_ids : (i : Id) → RecentId t i ↔ (i ≡ held_id h)
  sent_ids i = (
    λ (q, l, m, e). sym e ∙ ap (id_at (hold r h 0)) (marked_only q m) ∙ hold_id r typed fit room h can 0,
    λ e. (
      r.held,
      omega (arith, (hold_appends r typed fit room h can 0).held),
      subst (λ (n : ℕ). T (not (eqb n 0))) (sym (get_or-set_same (replicate max_held 0) r.held 1 0 (omega (arith, length-replicate {A = ℕ} max_held 0)))) tt,
      hold_id r typed fit room h can 0 ∙ sym e,
    ),
  )

  pub sent_holds : RecentHolds t
  sent_holds =
      record {
        last = λ i e. (sent_ids i).1 (sym (same_id_lem i e) ∙ hold_id r typed fit room h can 0);
        votes = λ q l m. subst (λ (k : ℕ). T (not (is_proposal_at (hold r h 0) k))) (sym (marked_only q m))
            (subst (λ (b : Bool). T (not b)) (sym (hold_kind r typed fit room h can 0)) vote);
      }
