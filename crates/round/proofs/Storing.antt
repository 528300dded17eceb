-- No delivery stores nothing: an accepted message is known afterwards, and what was known stays known. And a round stays that of its house and bay.
use mathlib.Core.Path.{◌≡◌, sym, ap, subst, ◌∙◌}
use mathlib.Core.Logic.{◌⊎◌, inl, inr, ◌≢◌}
use mathlib.Core.Bool.{true, not}
use mathlib.Core.Option.{Option, none, some}
use mathlib.Core.List.{List, [], ◌∷◌, ◌++◌}
use Prim.Native.Nat.{ℕ, ◌<◌}
use native.Mathlib.Omega.{arith}
use lib.Dec.{T, eqb, eqb→eq, eqb_refl}
use Rattle.std.specs.Prelude.{Err}
use Rattle.base.proofs.Tests.{or_r, dec_T, neqb→ne}
use Rattle.base.specs.declared.refusal.Refusal.{Refusal}
use Rattle.protocol.specs.Ids.{Id}
use Rattle.protocol.specs.Table.{Table, Held, at, held_id}
use Rattle.protocol.proofs.Growth.{at_append, at_end}
use Rattle.round.specs.Round.{Round}
use Rattle.round.specs.Holdings.{id_at, table_of, is_known, place_of}
use Rattle.round.specs.Rows.{placed, is_known_id}
use Rattle.round.specs.Delivery.{delivery}
use Rattle.round.specs.Demands.{RoundStaysItself}
use Rattle.round.specs.ShutOut.{AcceptedIsKnown}
use Rattle.round.proofs.Step.{Returns, Appends, Arrives}
use Rattle.round.proofs.Named.{place_none, place_some, held_found}
use Rattle.round.proofs.Arriving.{placed_out}
use Rattle.round.proofs.OneDelivery.{tells}
use Rattle.round.proofs.OneCall.{refused_leaves_all_lem}
use Rattle.round.proofs.Lists.{refused_or_not}
use Rattle.round.proofs.Canonical.{place_in, place_stays, place_law, table_size}
use Rattle.round.proofs.Records.{table_id}
use Rattle.round.proofs.Reached.{Grows, answers_grow, step_grows}
use Rattle.round.proofs.Answers.{taken_number}

known_at_lem : (r : Round) (i : Id) (p : ℕ) → place_of r i ≡ some p → T (is_known r p) → T (is_known_id r i)
known_at_lem r i p e t = subst (λ (o : Option ℕ). T (placed (is_known r) o)) (sym e) t

-- ---- a known id stays known as a round grows
known_stays : (r s : Round) (i : Id) → Grows r s → T (is_known_id r i) → T (is_known_id s i)
known_stays r s i g h =
    let (p, e, t) = placed_out (is_known r) (place_of r i) h in
    known_at_lem s i p
    (place_law s i ∙ ap (λ (x : Table). place_in x i) g.table ∙ place_stays (table_of r) g.more i p (sym (place_law r i) ∙ e))
    (g.known p (place_some r i p e).inside t)

-- ---- a message that arrives
returned_known : (r s : Round) (i : Id) → Returns r s i → T (is_known_id s i)
returned_known r s i e =
    known_at_lem s i e.place
    (place_law s i ∙ ap (λ (x : Table). place_in x i) e.table ∙ sym (place_law r i) ∙ e.there)
    (subst T (sym (e.known e.place (place_some r i e.place e.there).inside)) (or_r (is_known r e.place) (eqb e.place e.place) (eqb_refl e.place)))

module _ (r s : Round) (h : Held) (new : place_of r (held_id h) ≡ none) (e : Appends r s h true) where
  old_id : (q : ℕ) → q < r.held → id_at s q ≡ id_at r q
  old_id q l =
      sym (table_id s q (omega (arith, e.held)))
      ∙ ap (λ (t : Table). held_id (at t q)) e.table
      ∙ ap held_id (at_append (table_of r) (h ∷ []) q (omega (arith, table_size r)))
      ∙ table_id r q l

  new_id : id_at s r.held ≡ held_id h
  new_id =
      sym (table_id s r.held (omega (arith, e.held)))
      ∙ ap (λ (t : Table). held_id (at t r.held)) e.table
      ∙ ap (λ (n : ℕ). held_id (at (table_of r ++ h ∷ []) n)) (sym (table_size r))
      ∙ ap held_id (at_end (table_of r) h)

  pub new_place : place_of s (held_id h) ≡ some r.held
  new_place = let f = held_found s r.held (omega (arith, e.held)) in ap (place_of s) (sym new_id) ∙ f.is ∙ ap some (step f.place f.named.inside (f.named.there ∙ new_id) (dec_T (eqb f.place r.held)))
    where
      step : (p : ℕ) → p < s.held → id_at s p ≡ held_id h → T (eqb p r.held) ⊎ T (not (eqb p r.held)) → p ≡ r.held
      step p l i (inl t) = eqb→eq p r.held t
      step p l i (inr t) =
          let w : p < r.held = omega (arith, e.held, neqb→ne p r.held t) in
          absurd (place_none r (held_id h) new p w (sym (old_id p w) ∙ i))

  appended_known : T (is_known_id s (held_id h))
  appended_known = known_at_lem s (held_id h) r.held new_place (subst T (sym e.new) tt)

pub arrived_known : (H : List ℕ → Id) (r s : Round) (b : List ℕ) → Arrives H r s b → T (is_known_id s (H b))
arrived_known H r s b a = step a.how
  where
    step : Returns r s (H b) ⊎ ((place_of r (H b) ≡ none) × Appends r s a.record' true) → T (is_known_id s (H b))
    step (inl e) = returned_known r s (H b) e
    step (inr (n, e)) = subst (λ (i : Id). T (is_known_id s i)) a.records.id (appended_known r s a.record' (ap (place_of r) a.records.id ∙ n) e)

pub accepted_is_known : AcceptedIsKnown
accepted_is_known H rule r typed b buffer taken =
    let t = (tells H rule r typed b buffer (taken_number (delivery H r b buffer).outcome taken)).step in (
      known_stays t.between _ (H b) (answers_grow t.answers) (arrived_known H r t.between b t.arrives),
      λ i h. known_stays r _ i (step_grows t) h,
    )

-- ---- a round stays that of its graph, house, bay and own number
pub round_stays_itself : RoundStaysItself
round_stays_itself H rule r typed b buffer = by (refused_or_not (delivery H r b buffer).outcome)
  where
    s : Round
    s = (delivery H r b buffer).round

    by : ((e : Refusal) × ((delivery H r b buffer).outcome ≡ Err e)) ⊎ ((e : Refusal) → (delivery H r b buffer).outcome ≢ Err e)
        → (s.graph ≡ r.graph) × (s.house ≡ r.house) × (s.bay ≡ r.bay) × (s.own ≡ r.own)
    by (inl (e, k)) =
        let same = (refused_leaves_all_lem H r b buffer e k).0 in
        (ap (λ (x : Round). x.graph) same, ap (λ (x : Round). x.house) same, ap (λ (x : Round). x.bay) same, ap (λ (x : Round). x.own) same)
    by (inr k) = let same = (step_grows (tells H rule r typed b buffer k).step).same in (sym same.graph, sym same.house, sym same.bay, sym same.own)
