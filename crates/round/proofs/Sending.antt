-- What an acceptor sends reads back: the own acceptor's message for the round's house and bay, naming last sent, referring to recent ∪ {m}.
use mathlib.Core.Path.{◌≡◌, refl, sym, ap, subst, ◌∙◌}
use mathlib.Core.Logic.{◌⊎◌, inl, inr}
use mathlib.Core.Bool.{Bool, true, false, not}
use mathlib.Core.Option.{Option, none, some}
use mathlib.Core.List.{List, [], ◌∷◌}
use Prim.Native.Nat.{ℕ, ◌*◌, ◌-◌, ◌<◌, ◌≤◌}
use native.Mathlib.Omega.{arith}
use lib.Dec.{T, eqb, eqb→eq, eqb_refl}
use lib.ListN.{length}
use borrow.Author.Tests.{ne_eqb, eq-eqb}
use Rattle.std.specs.Prelude.{Ok}
use Rattle.base.specs.Tests.{◌∈◌, pick}
use Rattle.base.proofs.Tests.{or_l, or_r, or_out, map_in, map_out}
use Rattle.base.proofs.Bytes.{part_length}
use Rattle.message.specs.Layout as layout
use Rattle.message.specs.Layout.{id_len}
use Rattle.message.specs.Order.{ascending}
use Rattle.message.specs.Reader.{reading, previous_in}
use Rattle.message.specs.Writer.{acceptor_bytes, has_previous}
use Rattle.message.specs.Demands.{AcceptorFields, AcceptorBack, acceptor_of}
use Rattle.message.specs.declared.AcceptorMessage.{AcceptorMessage}
use Rattle.message.specs.declared.Message.TheVariants.{OfAcceptor}
use Rattle.message.proofs.RoundTrip.{acceptor_reads_back}
use Rattle.protocol.specs.Ids.{Id}
use Rattle.round.specs.Round.{Round}
use Rattle.round.specs.Limits.{max_held, no_place}
use Rattle.round.specs.Holdings.{id_at, named, is_recent, place_of}
use Rattle.round.specs.Handed.{place_fits}
use Rattle.round.specs.Rows.{reference_ids, previous_id}
use Rattle.round.specs.Reply.{in_reply, or_empty, joined, reply_places, reply_bytes}
use Rattle.round.specs.Premises.{Typed}
use Rattle.round.specs.Demands.{RecentId, ReplySays}
use Rattle.round.proofs.Fitting.{Fitting, place_cases}
use Rattle.round.proofs.Order.{Rising, ids_of}
use Rattle.round.proofs.Chosen.{chosen_out, chosen_most, reply_covers, reply_some, id_size_lem, reply_rising}
use Rattle.round.proofs.Written.{references_end}
use Rattle.round.proofs.Joined.{joined_length, joined_ascends, joined_found}

-- ---- an id or none, as the writer takes it
abbrev pub WholeId : Option Id → Type 0
WholeId none = Unit {0}
WholeId (some i) = length i ≡ id_len

module _ (r : Round) where
  empty_size : (o : Option Id) → WholeId o → (length (or_empty r o) ≡ 0) ⊎ (length (or_empty r o) ≡ id_len)
  empty_size none w = inl refl
  empty_size (some i) w = inr w

  previous_back : (z : List ℕ) (o : Option Id) → WholeId o → previous_in z (has_previous (or_empty r o)) ≡ or_empty r o
      → (house bay signer n : ℕ) → previous_id z (acceptor_of house bay signer (or_empty r o) n) ≡ o
  previous_back z none w e house bay signer n = refl
  previous_back z (some i) w e house bay signer n = whole (not (eqb (length i) 0)) (ap not (ne_eqb (length i) 0 (λ q. absurd (omega (arith, w))))) e
    where
      whole : (b : Bool) → b ≡ true → previous_in z b ≡ i → pick b (some (previous_in z true)) none ≡ some i
      whole true q e = ap some e
      whole false q e = let x : ◌≡◌ {A = ℕ} 0 1 = cc in absurd (omega arith)

  -- the id of last sent, or none
  pub named_whole : Typed r → r.held ≤ max_held → (p : ℕ) → T (place_fits r p) → WholeId (named r p)
  named_whole typed most p h = step (place_cases r p h)
    where
      here : (b : Bool) → p < r.held → WholeId (pick b none (some (id_at r p)))
      here true l = tt
      here false l = part_length id_len r.ids (id_len * p) (omega (arith, typed.ids_size))

      step : (p ≡ no_place) ⊎ (p < r.held) → WholeId (named r p)
      step (inl e) = subst (λ (b : Bool). WholeId (pick b none (some (id_at r p)))) (sym (eq-eqb p no_place e)) tt
      step (inr l) = here (eqb p no_place) l

-- ---- the reply to the message at place p
module _ (r : Round) (typed : Typed r) (fit : Fitting r) (p : ℕ) (here : p < r.held) where
  abbrev n : ℕ
  n = length (reply_places r p)

  abbrev last' : Id
  last' = or_empty r (named r r.last)

  abbrev ids : List ℕ
  ids = joined r (reply_places r p)

  pub reply_inside : (j : ℕ) → j ∈ reply_places r p → j < r.held
  reply_inside j m = (chosen_out r p r.held j m).inside

  pub reply_canonical : (j : ℕ) → j ∈ reply_places r p → place_of r (id_at r j) ≡ some j
  reply_canonical j m = (chosen_out r p r.held j m).canonical

  pub reply_most : n ≤ max_held
  reply_most = omega (arith, chosen_most r p r.held, fit.most)

  whole_ids : (j : ℕ) → j ∈ reply_places r p → length (id_at r j) ≡ id_len
  whole_ids j m = id_size_lem r p typed fit.most j (reply_inside j m)

  ascends : (l : List ℕ) → 0 < length l → ((j : ℕ) → j ∈ l → length (id_at r j) ≡ id_len) → Rising (ids_of r l) → ascending (length l - 1) (joined r l) 0 ≡ true
  ascends [] h w k = absurd (omega arith)
  ascends (q ∷ l) h w k = ap (λ (x : ℕ). ascending x (joined r (q ∷ l)) 0) (omega arith) ∙ joined_ascends r q l (joined r (q ∷ l)) 0 w refl k

  last_whole : WholeId (named r r.last)
  last_whole = named_whole r typed fit.most r.last fit.last

  writes : AcceptorFields r.house r.bay last' n ids
  writes =
      record {
        house_fits = typed.house_fits;
        bay_fits = typed.bay_fits;
        previous_id = empty_size r (named r r.last) last_whole;
        some = reply_some r p here;
        most = reply_most;
        whole = joined_length r (reply_places r p) whole_ids;
        ordered = ascends (reply_places r p) (reply_some r p here) whole_ids (reply_rising r p typed fit.most);
      }

  abbrev z : List ℕ
  z = acceptor_bytes r.house r.bay r.own last' n ids

  back : AcceptorBack r.house r.bay r.own last' n ids z
  back = acceptor_reads_back r.house r.bay r.own last' n ids writes

  abbrev pub reply_fields : AcceptorMessage
  reply_fields = acceptor_of r.house r.bay r.own (or_empty r (named r r.last)) (length (reply_places r p))

  pub reply_reads : reading (reply_bytes r p) ≡ Ok (OfAcceptor reply_fields)
  unfolding reply_bytes
  reply_reads = back.fields

  pub reply_previous : previous_id (reply_bytes r p) reply_fields ≡ named r r.last
  unfolding reply_bytes
  reply_previous =
      previous_back r z (named r r.last) last_whole back.previous_back r.house r.bay r.own n

  pub reply_ids : reference_ids (reply_bytes r p) reply_fields ≡ ids_of r (reply_places r p)
  unfolding reply_bytes
  reply_ids = joined_found r (reply_places r p) z (layout.references_at (has_previous last')) whole_ids (references_end z reply_fields back.fields ∙ back.references_back)

  -- ---- the ids that it refers to are those of recent ∪ {m}
  abbrev In : Id → Type 0
  In i = (i ≡ id_at r p) ⊎ RecentId r i

  refers_out : (i : Id) → i ∈ ids_of r (reply_places r p) → In i
  refers_out i m =
      let (j, k, e) = map_out (id_at r) (reply_places r p) m in
      let a = (chosen_out r p r.held j k).among in
      step a.place a.inside (a.same ∙ sym e) (or_out (is_recent r a.place) (eqb a.place p) a.member)
    where
      step : (k : ℕ) → k < r.held → id_at r k ≡ i → T (is_recent r k) ⊎ T (eqb k p) → In i
      step k l e (inl t) = inr (k, l, t, e)
      step k l e (inr t) = inl (sym e ∙ ap (id_at r) (eqb→eq k p t))

  refers_in : (i : Id) → In i → i ∈ ids_of r (reply_places r p)
  refers_in i h = step h
    where
      from : (k : ℕ) → k < r.held → id_at r k ≡ i → T (in_reply r p k) → i ∈ ids_of r (reply_places r p)
      from k l e t =
          let (j, m, q) = reply_covers r p k l t in
          subst (λ (x : Id). x ∈ ids_of r (reply_places r p)) (q ∙ e) (map_in (id_at r) m)

      step : In i → i ∈ ids_of r (reply_places r p)
      step (inl e) = from p here (sym e) (or_r (is_recent r p) (eqb p p) (eqb_refl p))
      step (inr (k, l, t, e)) = from k l e (or_l (is_recent r k) (eqb k p) t)

  pub reply_says : ReplySays r (id_at r p) (reply_bytes r p)
  reply_says = (
    reply_fields,
    reply_reads,
    refl,
    refl,
    refl,
    reply_previous,
    λ i. (
      λ m. refers_out i (subst (λ (l : List Id). i ∈ l) reply_ids m),
      λ h. subst (λ (l : List Id). i ∈ l) (sym reply_ids) (refers_in i h),
    ),
  )
