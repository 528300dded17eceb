-- Holding a record keeps the sizes of the arrays and row 17's tests, and is one more place of the table.
use mathlib.Core.Path.{◌≡◌, refl, sym, ap, subst, ◌∙◌}
use mathlib.Core.Logic.{◌⊎◌, inl, inr}
use mathlib.Core.Bool.{Bool, not}
use mathlib.Core.List.{List}
use Prim.Native.Nat.{ℕ, ◌*◌, ◌<◌, ◌≤◌}
use native.Mathlib.Omega.{arith}
use lib.Dec.{T, eqb, leb, eqb→eq, leb→le}
use lib.ListN.{length, get_or, length-set}
use lib.Seq.{get_or-set_same, get_or-set_other}
use Rattle.base.specs.Tests.{◌∈◌}
use Rattle.base.proofs.Tests.{or_out, dec_T, neqb→ne}
use Rattle.base.proofs.Cuts.{length_put}
use Rattle.message.specs.Layout.{id_len, proposal_kind}
use Rattle.protocol.specs.Table.{Held, held_id, held_signer, held_previous, offered, places}
use Rattle.round.specs.Round.{Round}
use Rattle.round.specs.Limits.{max_held}
use Rattle.round.specs.Holdings.{id_at, is_proposal_at, references_at}
use Rattle.round.specs.Handed.{place_fits, own_fits, refers_back}
use Rattle.round.specs.Delivery.{hold, previous_place}
use Rattle.round.specs.Premises.{Typed}
use Rattle.round.proofs.Step.{Same, Appends}
use Rattle.round.proofs.Parts.{bytes_put}
use Rattle.round.proofs.Fitting.{Fitting, Keeps, back_in, back_kept, place_more}
use Rattle.round.proofs.Holding.{Storable, appended, kind_in, ballot_in, kind_offered, hold_is, keeps, table, new_id, new_refs, new_kind}

module _ (r : Round) (typed : Typed r) (fit : Fitting r) (room : r.held < max_held) (h : Held) (can : Storable r h) (k : ℕ) where
  abbrev s : Round
  s = appended r h k

  typed_appended : Typed s
  typed_appended =
      record {
        house_fits = typed.house_fits;
        bay_fits = typed.bay_fits;
        ids_size = length_put r.ids (held_id h) (id_len * r.held) (omega (arith, typed.ids_size, can.id_size)) ∙ typed.ids_size;
        kinds_size = length-set r.kinds r.held (kind_in h) ∙ typed.kinds_size;
        signers_size = length-set r.signers r.held (held_signer h) ∙ typed.signers_size;
        ballots_size = length-set r.ballots r.held (ballot_in h) ∙ typed.ballots_size;
        previous_size = length-set r.previous r.held (previous_place r (held_previous h)) ∙ typed.previous_size;
        counts_size = length-set r.counts r.held (length (places h)) ∙ typed.counts_size;
        references_size = length_put r.references (places h) (max_held * r.held) (omega (arith, typed.references_size, can.most)) ∙ typed.references_size;
        known_size = length-set r.known r.held k ∙ typed.known_size;
        recent_size = length-set r.recent r.held 0 ∙ typed.recent_size;
        id_bytes = bytes_put r.ids (held_id h) (id_len * r.held) typed.id_bytes can.id_bytes;
      }

  -- ---- row 17 at the new place, and at all
  new_count : get_or s.counts r.held 0 ≡ length (places h)
  new_count = get_or-set_same r.counts r.held (length (places h)) 0 (omega (arith, typed.counts_size))

  new_back : T (refers_back s r.held)
  new_back = back_in s r.held (step (or_out (offered h) (leb 1 (length (places h))) can.some'))
    where
      step : T (offered h) ⊎ T (leb 1 (length (places h)))
          → T (is_proposal_at s r.held) ⊎ ((1 ≤ get_or s.counts r.held 0) × ((j : ℕ) → j ∈ references_at s r.held → j < r.held))
      step (inl t) = inl (subst T (sym (ap (λ (n : ℕ). eqb n proposal_kind) (new_kind r typed fit room h k can) ∙ kind_offered h)) t)
      step (inr t) =
          inr (
            subst (λ (n : ℕ). 1 ≤ n) (sym new_count) (leb→le 1 (length (places h)) t),
            λ j m. can.earlier j (subst (λ (l : List ℕ). j ∈ l) (new_refs r typed fit room h k can) m),
          )

  new_previous : T (place_fits s (get_or s.previous r.held 0))
  new_previous =
      subst (λ (p : ℕ). T (place_fits s p))
      (sym (get_or-set_same r.previous r.held (previous_place r (held_previous h)) 0 (omega (arith, typed.previous_size))))
      (place_more r s (previous_place r (held_previous h)) (omega arith) can.placed)

  -- what holds of the old places and of the new one holds of all
  each : (P : ℕ → Type 0) → ((p : ℕ) → p < r.held → P p) → P r.held → (p : ℕ) → p < s.held → P p
  each P old new p l = step (dec_T (eqb p r.held))
    where
      step : T (eqb p r.held) ⊎ T (not (eqb p r.held)) → P p
      step (inl t) = subst P (sym (eqb→eq p r.held t)) new
      step (inr t) = old p (omega (arith, neqb→ne p r.held t))

  fitting_appended : Fitting s
  unfolding own_fits
  fitting_appended =
      let kept = keeps r typed fit room h k in
      record {
        graph = fit.graph;
        own = fit.own;
        most = omega arith;
        last = place_more r s r.last (omega arith) fit.last;
        counts = each (λ p. get_or s.counts p 0 ≤ max_held) (λ p l. omega (arith, kept.counts p l, fit.counts p l)) (omega (arith, new_count, can.most));
        previous =
            each (λ p. T (place_fits s (get_or s.previous p 0)))
            (λ p l. subst (λ (n : ℕ). T (place_fits s n)) (sym (kept.previous p l)) (place_more r s (get_or r.previous p 0) (omega arith) (fit.previous p l)))
            new_previous;
        back = each (λ p. T (refers_back s p)) (λ p l. subst (λ (b : Bool). T b) (sym (back_kept r s kept p l)) (fit.back p l)) new_back;
      }

  appends_appended : Appends r s h (not (eqb k 0))
  appends_appended =
      record {
        held = refl;
        table = table r typed fit room h k can;
        old = λ q l. ap (λ (n : ℕ). not (eqb n 0)) (get_or-set_other r.known r.held q k 0 (λ e. absurd (omega arith)));
        new = ap (λ (n : ℕ). not (eqb n 0)) (get_or-set_same r.known r.held k 0 (omega (arith, typed.known_size)));
      }

  -- ---- the same of `hold`
  pub hold_keeps : Keeps r (hold r h k)
  hold_keeps = subst (λ (x : Round). Keeps r x) (sym (hold_is r h k)) (keeps r typed fit room h k)

  pub hold_typed : Typed (hold r h k)
  hold_typed = subst (λ (x : Round). Typed x) (sym (hold_is r h k)) typed_appended

  pub hold_fitting : Fitting (hold r h k)
  hold_fitting = subst (λ (x : Round). Fitting x) (sym (hold_is r h k)) fitting_appended

  pub hold_appends : Appends r (hold r h k) h (not (eqb k 0))
  hold_appends = subst (λ (x : Round). Appends r x h (not (eqb k 0))) (sym (hold_is r h k)) appends_appended

  pub hold_same : Same r (hold r h k)
  hold_same = subst (λ (x : Round). Same r x) (sym (hold_is r h k)) (record { graph = refl; house = refl; bay = refl; own = refl })

  pub hold_last : (hold r h k).last ≡ r.last
  hold_last = ap (λ (x : Round). x.last) (hold_is r h k)

  pub hold_kind : is_proposal_at (hold r h k) r.held ≡ offered h
  hold_kind = ap (λ (x : Round). is_proposal_at x r.held) (hold_is r h k) ∙ ap (λ (n : ℕ). eqb n proposal_kind) (new_kind r typed fit room h k can) ∙ kind_offered h

  pub hold_id : id_at (hold r h k) r.held ≡ held_id h
  hold_id = ap (λ (x : Round). id_at x r.held) (hold_is r h k) ∙ new_id r typed fit room h k can
