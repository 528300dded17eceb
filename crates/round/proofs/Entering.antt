-- An accepted message becomes known at the place where it awaited its return, or behind the others; then it is answered.
use mathlib.Core.Path.{◌≡◌, refl, sym, ap, subst, ◌∙◌}
use mathlib.Core.Logic.{◌⊎◌, inl, inr}
use mathlib.Core.Bool.{Bool, true, false, not, ◌&&◌}
use mathlib.Core.Option.{Option, none, some}
use mathlib.Core.List.{List}
use Prim.Native.Nat.{ℕ, ◌<◌}
use native.Mathlib.Omega.{arith}
use lib.Dec.{T, leb, ltb, nleb→lt}
use Rattle.base.specs.Tests.{pick}
use Rattle.protocol.specs.Ids.{Id}
use Rattle.protocol.specs.Table.{Held}
use Rattle.round.specs.Round.{Round}
use Rattle.round.specs.Limits.{max_held, acceptor_room, listening}
use Rattle.round.specs.Holdings.{is_voting, id_at, named, is_known, place_of}
use Rattle.round.specs.Rows.{placed}
use Rattle.round.specs.Delivery.{Effect, hold, returned, entered_in, entered_at, processed, entered}
use Rattle.round.specs.Premises.{IdRule, Typed}
use Rattle.round.specs.Demands.{RecentId, ReplySays}
use Rattle.round.proofs.Step.{Arrives, Step}
use Rattle.round.proofs.Named.{place_some}
use Rattle.round.proofs.Fitting.{Fitting, fits_in, named_kept}
use Rattle.round.proofs.Growing.{hold_keeps, hold_typed, hold_fitting, hold_appends, hold_same, hold_last, hold_id}
use Rattle.round.proofs.Marking.{returned_typed, returned_fitting, returned_known}
use Rattle.round.proofs.Recent.{RecentHolds, recent_stays, recent_before, held_holds}
use Rattle.round.proofs.Answering.{Speaks, Answers, processing}
use Rattle.round.proofs.Accepting.{Accepts}

-- ---- row 16: "128 held; for an acceptor 127, or 128 for its own message returning"
pub room_left : (v : Bool) (f : ℕ → Bool) (o : Option ℕ) (n : ℕ) → T (not (leb (pick (v && not (placed f o)) acceptor_room max_held) n)) → n < max_held
room_left v f o n h = by (v && not (placed f o)) h
  where
    by : (b : Bool) → T (not (leb (pick b acceptor_room max_held) n)) → n < max_held
    by true h = let l = nleb→lt acceptor_room n h in omega arith
    by false h = nleb→lt max_held n h

pub room_behind : (v : Bool) (f : ℕ → Bool) (n : ℕ) → T (not (leb (pick (v && not (placed f none)) acceptor_room max_held) n)) → T v → n < acceptor_room
room_behind true f n h t = nleb→lt acceptor_room n h
room_behind false f n h t = absurd t

-- the law of one delivery, what a reply says, and what stays true of recent
pub record Tells (H : List ℕ → Id) (r : Round) (b : List ℕ) (d : Effect) : Type 0 where
  pub step : Step H r b d
  pub speaks : Speaks r (H b) d
  pub recent : RecentHolds r → RecentHolds d.round

-- before the message arrived, r; after it, s, with the message at place p: the ids in recent are the same
pub record SameRecent (H : List ℕ → Id) (r s : Round) (b : List ℕ) (p : ℕ) : Type 0 where
  pub id : id_at s p ≡ H b
  pub before : (i : Id) → RecentId s i → RecentId r i
  pub after : (i : Id) → RecentId r i → RecentId s i
  pub holds : RecentHolds r → RecentHolds s

-- all that is known of s: it can be answered in
pub record Entered (H : List ℕ → Id) (r s : Round) (b : List ℕ) (p : ℕ) : Type 0 where
  pub arrives : Arrives H r s b
  pub recent : SameRecent H r s b p
  pub typed : Typed s
  pub fitting : Fitting s
  pub free : T (is_voting s) → s.held < max_held
  pub here : p < s.held

module _ (H : List ℕ → Id) (r s : Round) (b : List ℕ) (p : ℕ) (e : Entered H r s b p) where
  -- what a reply in s says, it says of r
  pub says_before : (z : List ℕ) → ReplySays s (id_at s p) z → ReplySays r (H b) z
  says_before z (f, read, house, bay, own, last, refs) =
      let a = e.arrives in (
        f,
        read,
        house ∙ sym a.same.house,
        bay ∙ sym a.same.bay,
        own ∙ sym a.same.own,
        last ∙ a.last,
        λ i. (λ m. there i ((refs i).0 m), λ h. (refs i).1 (back i h)),
      )
    where
      there : (i : Id) → (i ≡ id_at s p) ⊎ RecentId s i → (i ≡ H b) ⊎ RecentId r i
      there i (inl q) = inl (q ∙ e.recent.id)
      there i (inr h) = inr (e.recent.before i h)

      back : (i : Id) → (i ≡ H b) ⊎ RecentId r i → (i ≡ id_at s p) ⊎ RecentId s i
      back i (inl q) = inl (q ∙ sym e.recent.id)
      back i (inr h) = inr (e.recent.after i h)

  stepped : (d : Effect) → Answers H s p d → Tells H r b d
  stepped d w =
      record {
        step = record { between = s; arrives = e.arrives; answers = w.answers; typed = w.typed; fitting = fits_in d.round w.fitting };
        speaks = λ n q. says_before d.reply (w.speaks n q);
        recent = λ inv. w.recent (e.recent.holds inv);
      }

module _ (H : List ℕ → Id) (rule : IdRule H) (r : Round) (typed : Typed r) (fit : Fitting r) (b : List ℕ) (h : Held) (acc : Accepts H r b h) where
  pub room : r.held < max_held
  room = room_left (is_voting r) (λ p. not (is_known r p)) (place_of r (H b)) r.held acc.fresh.not_full

  -- ---- behind the others
  abbrev s : Round
  s = hold r h 1

  arrives_new : place_of r (H b) ≡ none → Arrives H r s b
  arrives_new e =
      record {
        record' = h;
        records = acc.records;
        beneath = acc.beneath;
        links = acc.linked';
        forms = acc.forms;
        same = hold_same r typed fit room h acc.storable 1;
        last = ap (named s) (hold_last r typed fit room h acc.storable 1) ∙ named_kept r s (hold_keeps r typed fit room h acc.storable 1) r.last fit.last;
        how = inr (e, hold_appends r typed fit room h acc.storable 1);
      }

  recent_new : SameRecent H r s b r.held
  recent_new =
      record {
        id = hold_id r typed fit room h acc.storable 1 ∙ acc.records.id;
        before = recent_before r typed fit room h acc.storable 1;
        after = recent_stays r typed fit room h acc.storable 1;
        holds = held_holds r typed fit room h acc.storable 1;
      }

  free_new : place_of r (H b) ≡ none → T (is_voting s) → s.held < max_held
  free_new e v =
      let held = (hold_appends r typed fit room h acc.storable 1).held in
      let own = (hold_same r typed fit room h acc.storable 1).own in
      let w : r.held < acceptor_room =
      room_behind (is_voting r) (λ p. not (is_known r p)) r.held
      (subst (λ (o : Option ℕ). T (not (leb (pick (is_voting r && not (placed (λ p. not (is_known r p)) o)) acceptor_room max_held) r.held))) e acc.fresh.not_full)
      (subst (λ (n : ℕ). T (ltb n listening)) (sym own) v) in
      omega arith

  -- ---- at the place where it awaited its return
  awaited : (p : ℕ) → place_of r (H b) ≡ some p → T (not (is_known r p))
  awaited p e = subst (λ (o : Option ℕ). T (not (placed (is_known r) o))) e acc.fresh.unknown

  arrives_back : (p : ℕ) → place_of r (H b) ≡ some p → Arrives H r (returned r p) b
  arrives_back p e =
      let inside = (place_some r (H b) p e).inside in
      record {
        record' = h;
        records = acc.records;
        beneath = acc.beneath;
        links = acc.linked';
        forms = acc.forms;
        same = record { graph = refl; house = refl; bay = refl; own = refl };
        last = refl;
        how = inl (record {
          place = p;
          there = e;
          awaited = awaited p e;
          held = refl;
          table = refl;
          known = λ q l. returned_known r p (omega (arith, typed.known_size)) q;
        });
      }

  recent_back : (p : ℕ) → place_of r (H b) ≡ some p → SameRecent H r (returned r p) b p
  recent_back p e = record { id = (place_some r (H b) p e).there; before = λ i h. h; after = λ i h. h; holds = λ inv. record { last = inv.last; votes = inv.votes } }

  -- ---- either, as the id names a place or none
  pub entering : (o : Option ℕ) → place_of r (H b) ≡ o → Entered H r (entered_in r h o) b (entered_at r o)
  entering none e =
      record {
        arrives = arrives_new e;
        recent = recent_new;
        typed = hold_typed r typed fit room h acc.storable 1;
        fitting = hold_fitting r typed fit room h acc.storable 1;
        free = free_new e;
        here = let held = (hold_appends r typed fit room h acc.storable 1).held in omega arith;
      }
  entering (some p) e =
      record {
        arrives = arrives_back p e;
        recent = recent_back p e;
        typed = returned_typed r typed p;
        fitting = returned_fitting r fit p;
        free = λ v. room;
        here = (place_some r (H b) p e).inside;
      }

  pub enters : (o : Option ℕ) → place_of r (H b) ≡ o → Tells H r b (entered H r h o)
  enters o e =
      let w = entering o e in
      let s = entered_in r h o in
      let p = entered_at r o in
      stepped H r s b p w (processed H s p) (processing H rule s w.typed w.fitting w.free p w.here)
