-- Marking a place as known, and setting recent and last sent, keep the sizes of the arrays and row 17's tests.
use mathlib.Core.Path.{◌≡◌, refl, sym, ap, subst, ◌∙◌}
use mathlib.Core.Logic.{◌⊎◌, inl, inr}
use mathlib.Core.Bool.{Bool, true, false, not, ◌||◌}
use mathlib.Core.Option.{Option, none, some}
use mathlib.Core.List.{List}
use Prim.Native.Nat.{ℕ, ◌<◌, ◌≤◌}
use native.Mathlib.Omega.{arith}
use lib.Dec.{T, eqb, eqb→eq}
use lib.ListN.{length, get_or, set, length-set}
use lib.Seq.{get_or-set_same, get_or-set_other}
use borrow.Author.Tests.{eq-eqb, ne_eqb}
use Rattle.base.specs.Tests.{pick}
use Rattle.base.proofs.Tests.{dec_T, neqb→ne, not_true}
use Rattle.protocol.specs.Ids.{Id}
use Rattle.round.specs.Round.{Round}
use Rattle.round.specs.Limits.{max_held, no_place}
use Rattle.round.specs.Holdings.{id_at, named, is_known}
use Rattle.round.specs.Handed.{place_fits, own_fits, refers_back}
use Rattle.round.specs.Rows.{or_zero}
use Rattle.round.specs.Delivery.{previous_place, returned, with_recent}
use Rattle.round.specs.Premises.{Typed}
use Rattle.round.proofs.Named.{Found, held_found}
use Rattle.round.proofs.Fitting.{Fitting, place_cases, place_none, place_held}

module _ (r : Round) where
  pub recent_typed : Typed r → (last : ℕ) (recent : List ℕ) → length recent ≡ max_held → Typed (with_recent r last recent)
  recent_typed t last recent e =
      record {
        house_fits = t.house_fits;
        bay_fits = t.bay_fits;
        ids_size = t.ids_size;
        kinds_size = t.kinds_size;
        signers_size = t.signers_size;
        ballots_size = t.ballots_size;
        previous_size = t.previous_size;
        counts_size = t.counts_size;
        references_size = t.references_size;
        known_size = t.known_size;
        recent_size = e;
        id_bytes = t.id_bytes;
      }

  pub recent_fitting : Fitting r → (last : ℕ) (recent : List ℕ) → T (place_fits r last) → Fitting (with_recent r last recent)
  unfolding own_fits refers_back
  recent_fitting f last recent h = record { graph = f.graph; own = f.own; most = f.most; last = h; counts = f.counts; previous = f.previous; back = f.back }

  pub returned_typed : Typed r → (p : ℕ) → Typed (returned r p)
  returned_typed t p =
      record {
        house_fits = t.house_fits;
        bay_fits = t.bay_fits;
        ids_size = t.ids_size;
        kinds_size = t.kinds_size;
        signers_size = t.signers_size;
        ballots_size = t.ballots_size;
        previous_size = t.previous_size;
        counts_size = t.counts_size;
        references_size = t.references_size;
        known_size = length-set r.known p 1 ∙ t.known_size;
        recent_size = t.recent_size;
        id_bytes = t.id_bytes;
      }

  pub returned_fitting : Fitting r → (p : ℕ) → Fitting (returned r p)
  unfolding own_fits refers_back
  returned_fitting f p = record { graph = f.graph; own = f.own; most = f.most; last = f.last; counts = f.counts; previous = f.previous; back = f.back }

  or_false : (a : Bool) → a ≡ (a || false)
  or_false true = refl
  or_false false = refl

  or_true : (a : Bool) → true ≡ (a || true)
  or_true true = refl
  or_true false = refl

  pub returned_known : (p : ℕ) → p < length r.known → (q : ℕ) → is_known (returned r p) q ≡ (is_known r q || eqb q p)
  returned_known p l q = step (dec_T (eqb q p))
    where
      step : T (eqb q p) ⊎ T (not (eqb q p)) → is_known (returned r p) q ≡ (is_known r q || eqb q p)
      step (inl t) =
          let e : q ≡ p = eqb→eq q p t in
          ap (λ (n : ℕ). not (eqb n 0)) (ap (λ (x : ℕ). get_or (set r.known p 1) x 0) e ∙ get_or-set_same r.known p 1 0 l)
          ∙ or_true (is_known r q)
          ∙ ap (λ (b : Bool). is_known r q || b) (sym (eq-eqb q p e))
      step (inr t) =
          ap (λ (n : ℕ). not (eqb n 0)) (get_or-set_other r.known p q 1 0 (neqb→ne q p t))
          ∙ or_false (is_known r q)
          ∙ ap (λ (b : Bool). is_known r q || b) (sym (not_true (eqb q p) t))

  -- ---- a previous id that is held, or none, is found again at the place that is stored for it
  abbrev pub PlacedId : Option Id → Type 0
  PlacedId none = Unit {0}
  PlacedId (some i) = Found r i

  pub named_placed : (p : ℕ) → T (place_fits r p) → PlacedId (named r p)
  named_placed p h = step (place_cases r p h)
    where
      here : (b : Bool) → p < r.held → PlacedId (pick b none (some (id_at r p)))
      here true l = tt
      here false l = held_found r p l

      step : (p ≡ no_place) ⊎ (p < r.held) → PlacedId (named r p)
      step (inl e) = subst (λ (b : Bool). PlacedId (pick b none (some (id_at r p)))) (sym (eq-eqb p no_place e)) tt
      step (inr l) = here (eqb p no_place) l

  pub previous_fits : (o : Option Id) → PlacedId o → T (place_fits r (previous_place r o))
  previous_fits none f = place_none r no_place refl
  previous_fits (some i) f = subst (λ (x : Option ℕ). T (place_fits r (or_zero x))) (sym f.is) (place_held r f.place f.named.inside)

  pub previous_named : r.held ≤ max_held → (o : Option Id) → PlacedId o → named r (previous_place r o) ≡ o
  previous_named most none f = refl
  previous_named most (some i) f =
      ap (λ (x : Option ℕ). named r (or_zero x)) f.is
      ∙ (λ j. pick (ne_eqb f.place no_place (λ e. absurd (omega (arith, f.named.inside))) j) none (some (f.named.there j)))
