-- The notes of a table that grows by one record.
use mathlib.Core.Path.{◌≡◌, refl, sym, ap, ap₂, subst, ◌∙◌}
use mathlib.Core.Logic.{◌⊎◌, inl, inr}
use mathlib.Core.Bool.{Bool, true, false, not, ◌&&◌, ◌||◌}
use mathlib.Core.List.{List, [], ◌∷◌, ◌++◌}
use Prim.Native.Nat.{ℕ, ◌≤◌, ◌<◌}
use native.Mathlib.Decide.{dec_lt, ℕ_discrete}
use native.Mathlib.Omega.{arith}
use lib.Dec.{T, eqb, ltb, eqb→eq, ltb→lt}
use lib.ListN.{length, get_or, set, length-append}
use lib.Seq.{get_or-set_same, get_or-set_other}
use Rattle.base.specs.Tests.{◌∈◌, any}
use Rattle.base.proofs.Tests.{same_test, eq→eqb, or_l, or_r, or_out, and_cong}
use Rattle.graph.specs.LearnerGraph.{LearnerGraph}
use Rattle.protocol.specs.Ids.{Id, same_id, same_previous}
use Rattle.protocol.specs.Message.{Message, is1b, is2a, ballot, forks}
use Rattle.protocol.specs.Learners.{fresh, lrns}
use Rattle.protocol.specs.Table.{Held, offers, Table, at, held_id, held_signer, held_previous, offered, places, Ordered, node_by, tree, reach}
use Rattle.protocol.specs.Inside.Places.{is1b_at, is2a_at, ballot_at}
use Rattle.protocol.proofs.Table.{tree_is, node_cong, reach_is, reach_self, reach_le}
use Rattle.protocol.proofs.Growth.{at_append, at_end, tree_append, reach_append, ordered_snoc, ordered_nil}
use Rattle.protocol.proofs.Places.{is1b_at_lem, is2a_at_lem, ballot_by, ballot_at_lem, forks_held, forks_at}
use Rattle.protocol.proofs.PlacesLearners.{lrns_at_lem}
use Rattle.notes.specs.declared.Worked.{Worked}
use Rattle.places.specs.Inside.PlaceSets.{in_set}
use Rattle.meaning.specs.Inside.Notes.{Noted, NotedBy, AllNoted, Told}
use Rattle.places.proofs.Membership.{has_zero, in_zero}
use Rattle.round.specs.Round.{Round}
use Rattle.round.specs.Holdings.{is_proposal_at, signer_at}
use Rattle.notes.specs.Inside.Layout.{WordNotes, ByteNotes}
use Rattle.notes.specs.Inside.Writing.{words_noted, bytes_noted, with_index, with_ids, with_names}
use Rattle.notes.proofs.Fields.{WordRooms, ByteRooms}
use Rattle.round.specs.Limits.{max_held}

-- ---- the notes of a place stay right
pub noted_grows : (G : LearnerGraph) (t u : Table) → Ordered t → (i : ℕ) → i < length t → {low high forkLow forkHigh top learners freshes form : ℕ}
    → Noted G t i low high forkLow forkHigh top learners freshes form → Noted G (t ++ u) i low high forkLow forkHigh top learners freshes form
noted_grows G t u ord i l h =
    record {
      reaches = λ j lj. h.reaches j lj ∙ sym (reach_append t u ord i j l);
      forking = λ j lj. h.forking j lj ∙ and_cong (ltb j i) (forks (tree t j) (tree t i)) (forks (tree (t ++ u) j) (tree (t ++ u) i))
          (λ q. let g = ltb→lt j i q in ap₂ forks (sym (tree_append t u ord j (omega arith))) (sym e));
      ballot = h.ballot ∙ ap ballot (sym e);
      first = h.first ∙ ap is1b (sym e);
      second = h.second ∙ ap is2a (sym e);
      learning = λ a la. h.learning a la ∙ ap (λ (m : Message). lrns G m a) (sym e);
      within = h.within;
      freshly = λ a la one. h.freshly a la (subst (λ (m : Message). T (is1b m)) e one) ∙ ap (λ (m : Message). fresh G a m) (sym e);
    }
  where
    e : tree (t ++ u) i ≡ tree t i
    e = tree_append t u ord i l

-- ---- what a place reaches, with the place itself put in
pub self_reached : (u : Table) → Ordered u → (n : ℕ) (lo hi : ℕ) → ((q : ℕ) → q < n → in_set lo hi q ≡ reach u n q) → ((q : ℕ) → n ≤ q → q < max_held → T (in_set lo hi q) → ⊥)
    → (low high : ℕ) → ((q : ℕ) → q < max_held → in_set low high q ≡ (eqb n q || in_set lo hi q)) → (q : ℕ) → q < max_held → in_set low high q ≡ reach u n q
self_reached u ord n lo hi reaches others low high w q l = w q l ∙ same_test _ _ (λ k. to (or_out (eqb n q) (in_set lo hi q) k)) (λ k. from k (dec_lt q n))
  where
    to : T (eqb n q) ⊎ T (in_set lo hi q) → T (reach u n q)
    to (inl e) = subst (λ (k : ℕ). T (reach u n k)) (eqb→eq n q e) (reach_self u ord n)
    to (inr k) = step (dec_lt q n)
      where
        step : Dec (q < n) → T (reach u n q)
        step (yes g) = subst T (reaches q g) k
        step (no g) = absurd (others q (omega arith) l k)

    from : T (reach u n q) → Dec (q < n) → T (eqb n q || in_set lo hi q)
    from k (yes g) = or_r (eqb n q) (in_set lo hi q) (subst T (sym (reaches q g)) k)
    from k (no g) =
        let d = reach_le u ord n q k in
        let e : n ≡ q = omega arith in
        or_l (eqb n q) (in_set lo hi q) (eq→eqb e)

-- what was worked out
pub noted_told : (G : LearnerGraph) (u : Table) → Ordered u → (n : ℕ) → (r : Worked) → Told G u n r → (low high : ℕ)
    → ((q : ℕ) → q < max_held → in_set low high q ≡ (eqb n q || in_set r.beneath.low r.beneath.high q))
    → Noted G u n low high r.forks.low r.forks.high r.ballot r.learners r.fresh r.form
noted_told G u ord n r h low high w =
    record {
      reaches = self_reached u ord n r.beneath.low r.beneath.high h.reaches h.none low high w;
      forking = h.forking;
      ballot = h.ballot;
      first = h.first;
      second = h.second;
      learning = h.learning;
      within = h.within;
      freshly = h.freshly;
    }

-- ---- a proposal reaches itself alone
none_of : (a b c d : Bool) → (a && false && b && c && d) ≡ false
none_of true b c d = refl
none_of false b c d = refl

no_two : (a b : Bool) → a ≡ false → (a && b) ≡ false
no_two a b e = ap (λ (x : Bool). x && b) e

pub noted_offer : (G : LearnerGraph) (u : Table) → Ordered u → (n : ℕ) → (id : Id) (s x : ℕ) → at u n ≡ offers id s x → (low high : ℕ)
    → ((q : ℕ) → q < max_held → in_set low high q ≡ (eqb n q || in_set 0 0 q)) → Noted G u n low high 0 0 x 0 0 0
unfolding offered places any forks_held ballot_by
noted_offer G u ord n id s x e low high w =
    record {
      reaches = λ q l. w q l ∙ ap (λ (b : Bool). eqb n q || b) (in_zero q) ∙ sym (reach_is u ord n q ∙ ap (λ (r : Held). eqb n q || any (λ k. reach u k q) (places r)) e);
      forking = λ j l. in_zero j ∙ sym (ap (λ (b : Bool). ltb j n && b) (forks_at u u j n ∙ ap (forks_held (at u j)) e
          ∙ none_of (not (offered (at u j))) (eqb (held_signer (at u j)) (held_signer (offers id s x))) (not (same_id (held_id (at u j)) (held_id (offers id s x))))
          (same_previous (held_previous (at u j)) (held_previous (offers id s x)))) ∙ nothing (ltb j n));
      ballot = sym (ballot_at_lem u ord n ∙ ap (ballot_by (ballot_at u)) e);
      first = sym first;
      second = sym second;
      learning = λ a la. has_zero a ∙ sym (lrns_at_lem u G ord n n (omega arith) a ∙ no_two (is2a_at u n) _ second);
      within = λ a m. absurd (subst T (has_zero a) m);
      freshly = λ a la one. absurd (subst T first one);
    }
  where
    nothing : (b : Bool) → (b && false) ≡ false
    nothing true = refl
    nothing false = refl

    first : is1b_at u n ≡ false
    first = is1b_at_lem u ord n ∙ ap (λ (r : Held). not (offered r) && any (λ k. offered (at u k)) (places r)) e

    second : is2a_at u n ≡ false
    second = is2a_at_lem u ord n ∙ ap (λ (r : Held). not (offered r) && not (any (λ k. offered (at u k)) (places r))) e

-- ---- one more place
module _ (t : Table) (r : Held) (n : ℕ) (size : length t ≡ n) where
  old_or_new : (P : ℕ → Type 0) → ((i : ℕ) → i < length t → P i) → P n → (i : ℕ) → i < length (t ++ r ∷ []) → P i
  old_or_new P f h i l = step (ℕ_discrete i n)
    where
      step : Dec (i ≡ n) → P i
      step (yes e) = subst P (sym e) h
      step (no e) = f i (let s = length-append t (r ∷ []) in omega arith)

  at_last : at (t ++ r ∷ []) n ≡ r
  at_last = ap (at (t ++ r ∷ [])) (sym size) ∙ at_end t r

-- the notes
module _ (G : LearnerGraph) (t : Table) (rn : Round) (wn : WordNotes) (bn : ByteNotes)
    (kn : AllNoted G t rn wn bn) (r : Held) (n : ℕ) (size : length t ≡ n) (small : n < max_held)
    (ord : Ordered (t ++ r ∷ [])) (kind : is_proposal_at rn n ≡ offered r) (signer : signer_at rn n ≡ held_signer r) where
  pub known_more : WordRooms wn → ByteRooms bn → (w : Worked) → NotedBy G (t ++ r ∷ []) n w → (kl kh : List ℕ) (fl fh : ℕ)
      → AllNoted G (t ++ r ∷ []) rn (with_index (words_noted wn w n) kl kh fl fh) (bytes_noted bn w n)
  known_more rw₁ rw₂ w new kl kh fl fh =
      record {
        ordered = ord;
        kind = old_or_new t r n size (λ i. is_proposal_at rn i ≡ offered (at (t ++ r ∷ []) i)) (λ i l. kn.kind i l ∙ ap offered (sym (at_append t (r ∷ []) i l))) (kind ∙ ap offered (sym (at_last t r n size)));
        signer = old_or_new t r n size (λ i. signer_at rn i ≡ held_signer (at (t ++ r ∷ []) i)) (λ i l. kn.signer i l ∙ ap held_signer (sym (at_append t (r ∷ []) i l))) (signer ∙ ap held_signer (sym (at_last t r n size)));
        noted = old_or_new t r n size NotedNow before here;
      }
    where
      NotedNow : ℕ → Type 0
      NotedNow i = Noted G (t ++ r ∷ []) i (get_or (set wn.low n w.beneath.low) i 0) (get_or (set wn.high n w.beneath.high) i 0) (get_or (set wn.forklow n w.forks.low) i 0) (get_or (set wn.forkhigh n w.forks.high) i 0)
          (get_or (set wn.tops n w.ballot) i 0) (get_or (set bn.learners n w.learners) i 0) (get_or (set bn.fresh n w.fresh) i 0) (get_or (set bn.forms n w.form) i 0)

      before : (i : ℕ) → i < length t → NotedNow i
      before i l =
          let d' : i ≡ n → ⊥ = λ q. omega arith in
          rw (
            get_or-set_other wn.low n i w.beneath.low 0 d',
            get_or-set_other wn.high n i w.beneath.high 0 d',
            get_or-set_other wn.forklow n i w.forks.low 0 d',
            get_or-set_other wn.forkhigh n i w.forks.high 0 d',
            get_or-set_other wn.tops n i w.ballot 0 d',
            get_or-set_other bn.learners n i w.learners 0 d',
            get_or-set_other bn.fresh n i w.fresh 0 d',
            get_or-set_other bn.forms n i w.form 0 d',
          )
          (noted_grows G t (r ∷ []) kn.ordered i l (kn.noted i l))

      here : NotedNow n
      here =
          rw (
            get_or-set_same wn.low n w.beneath.low 0 (omega (arith, rw₁.low)),
            get_or-set_same wn.high n w.beneath.high 0 (omega (arith, rw₁.high)),
            get_or-set_same wn.forklow n w.forks.low 0 (omega (arith, rw₁.forklow)),
            get_or-set_same wn.forkhigh n w.forks.high 0 (omega (arith, rw₁.forkhigh)),
            get_or-set_same wn.tops n w.ballot 0 (omega (arith, rw₁.tops)),
            get_or-set_same bn.learners n w.learners 0 (omega (arith, rw₂.learners)),
            get_or-set_same bn.fresh n w.fresh 0 (omega (arith, rw₂.fresh)),
            get_or-set_same bn.forms n w.form 0 (omega (arith, rw₂.forms)),
          ) new

-- other names and another index of the ids leave them right
pub known_renamed : (G : LearnerGraph) (t : Table) (rn : Round) (wn : WordNotes) (bn : ByteNotes) (idlow idhigh names : List ℕ)
    → AllNoted G t rn wn bn → AllNoted G t rn (with_ids wn idlow idhigh) (with_names bn names)
known_renamed G t rn wn bn idlow idhigh names kn = record { ordered = kn.ordered; kind = kn.kind; signer = kn.signer; noted = kn.noted }

pub known_none : (G : LearnerGraph) (rn : Round) (wn : WordNotes) (bn : ByteNotes) → AllNoted G [] rn wn bn
known_none G rn wn bn =
    record { ordered = ordered_nil; kind = λ i l. absurd (omega arith); signer = λ i l. absurd (omega arith); noted = λ i l. absurd (omega arith) }

-- ---- the message of a record put at the end
pub new_message : (t : Table) (h : Held) → Ordered t → ((j : ℕ) → j ∈ places h → j < length t) → tree (t ++ h ∷ []) (length t) ≡ node_by (tree t) h
new_message t h ord back =
    tree_is (t ++ h ∷ []) (ordered_snoc t h ord back) (length t) ∙ ap (node_by (tree (t ++ h ∷ []))) (at_end t h)
    ∙ node_cong (tree (t ++ h ∷ [])) (tree t) h (λ j m. tree_append t (h ∷ []) ord j (back j m))
