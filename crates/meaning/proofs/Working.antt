-- What is worked out for a message is what the definitions say of it. t holds the places before it, u the message besides, at place n.
use mathlib.Core.Path.{◌≡◌, refl, sym, ap, ap₂, subst, ◌∙◌}
use mathlib.Core.Logic.{◌⊎◌, inl, inr}
use mathlib.Core.Bool.{Bool, true, false, not, ◌&&◌, ◌||◌, beq}
use mathlib.Core.Option.{Option, some}
use mathlib.Core.List.{List, [], ◌∷◌, ◌++◌}
use Prim.Native.Nat.{ℕ, suc, ◌≤◌, ◌<◌}
use native.Mathlib.Decide.{dec_lt}
use native.Mathlib.Omega.{arith}
use borrow.Author.Tests.{lt-ltb, le-ltb}
use lib.Dec.{T, eqb, ltb, eqb→eq, ltb→lt, lt→ltb, not_T, T_not}
use lib.ListN.{length, get_or}
use Rattle.base.specs.Tests.{◌∈◌, pick, any, all, below}
use Rattle.base.specs.Sets.{has}
use Rattle.base.proofs.Tests.{same_test, dec_T, eq→eqb, and_in, and_l, and_r, and_cong, or_l, or_r, or_out, imp_in, imp_out, any_in, any_out, all_in, all_out, any_cong, all_cong, below_in, below_out}
use Rattle.base.specs.Ballots.{value_of}
use Rattle.graph.specs.LearnerGraph.{LearnerGraph, is_quorum, safe_without}
use Rattle.graph.proofs.LearnerGraph.{quorum_cong, without_cong}
use Rattle.protocol.specs.Ids.{Id, same_id, same_previous}
use Rattle.protocol.specs.Message.{Message, is1b, is2a, value, forks}
use Rattle.protocol.specs.Learners.{fresh, lrns}
use Rattle.protocol.specs.Table.{Held, says, Table, at, held_id, held_signer, held_previous, offered, places, Ordered, node_by, tree, reach}
use Rattle.protocol.specs.Inside.Places.{is1b_at, is2a_at, ballot_at, value_at, caught_at, con_at, buried_at, fresh_at, lrns_at, repeats_at}
use Rattle.protocol.proofs.Ids.{same_id_law, same_previous_law}
use Rattle.protocol.proofs.Table.{reach_self}
use Rattle.protocol.proofs.Places.{forks_held, forks_at, caught_at_lem, formed1b_at_lem}
use Rattle.protocol.proofs.PlacesLearners.{con_at_lem, buried_at_lem, fresh_at_lem, lrns_at_lem, repeats_at_lem, formed2a_at_lem}
use Rattle.places.specs.Inside.PlaceSets.{in_set, meets}
use Rattle.scan.specs.Inside.Arrays.{Beneath, is_fork, is_caught, is_crowding, is_repeat}
use Rattle.voting.specs.Inside.Votes.{is_vote, vote_ballot, peaks_of, is_buried, is_opposed, is_barred, is_backer, backed_by}
use Rattle.meaning.specs.Inside.Notes.{AllNoted, Candidate, Told, Judged}
use Rattle.base.proofs.Sets.{some_member, same_below}
use Rattle.places.proofs.Membership.{has_zero}
use Rattle.places.proofs.Loops.{any_at}
use Rattle.voting.proofs.Burying.{buried_by_peaks}
use Rattle.meaning.proofs.Reaching as reaching
use Rattle.meaning.proofs.Reaching.{Reached, reached_of}
use Rattle.round.specs.Round.{Round}
use Rattle.round.specs.Holdings.{is_proposal_at}
use Rattle.notes.specs.Inside.Layout.{WordNotes, ByteNotes, first_form, second_form}
use Rattle.round.specs.Limits.{max_held}
use Rattle.round.proofs.Joined.{is_true}
use Rattle.graph.specs.Limits.{mask_bits}

-- ---- forks of records
fork_signer : (x y : Held) → T (forks_held x y) → held_signer x ≡ held_signer y
unfolding forks_held
fork_signer x y h = eqb→eq (held_signer x) (held_signer y) (search (and_l, and_r))

fork_other : (x : Held) → T (forks_held x x) → ⊥
unfolding forks_held
fork_other x h = T_not (same_id (held_id x) (held_id x)) (search (and_l, and_r)) ((same_id_law (held_id x) (held_id x)).1 refl)

fork_swap : (x y : Held) → T (forks_held x y) → T (forks_held y x)
unfolding forks_held
fork_swap x y h =
    let a : T (not (offered x)) = search (and_l, and_r) in
    let b : T (not (offered y)) = search (and_l, and_r) in
    let s : T (eqb (held_signer y) (held_signer x)) = eq→eqb (sym (fork_signer x y h)) in
    let i : T (not (same_id (held_id x) (held_id y))) = search (and_l, and_r) in
    let p : T (same_previous (held_previous x) (held_previous y)) = search (and_l, and_r) in
    let i' : T (not (same_id (held_id y) (held_id x))) = not_T (same_id (held_id y) (held_id x)) (λ t. T_not (same_id (held_id x) (held_id y)) i ((same_id_law (held_id x) (held_id y)).1 (sym ((same_id_law (held_id y) (held_id x)).0 t)))) in
    let p' : T (same_previous (held_previous y) (held_previous x)) = (same_previous_law (held_previous y) (held_previous x)).1 (sym ((same_previous_law (held_previous x) (held_previous y)).0 p)) in
    search and_in

-- ---- tests put in another order
pad : (a b c d : Bool) → (a && b && c && d) ≡ (a && true && b && c && d)
pad true b c d = refl
pad false b c d = refl

picked : (t : Bool) (x y : ℕ) → (ltb x (pick t y 0) && not (eqb (value_of (pick t y 0)) (value_of x))) ≡ (t && (ltb x y && not (eqb (value_of y) (value_of x))))
picked true x y = refl
picked false x y = ap (λ (b : Bool). b && not (eqb (value_of 0) (value_of x))) (le-ltb x 0 (omega arith))

regroup : (r a b c d : Bool) → (r && a && b && (c && d)) ≡ (r && (a && b && (c && d)))
regroup true a b c d = refl
regroup false a b c d = refl

front : (r a b c d : Bool) → (r && a && b && c && d) ≡ (r && (a && b && c && d))
front true a b c d = refl
front false a b c d = refl

and_true : (a b : Bool) → T a → (a && b) ≡ b
and_true true b h = refl
and_true false b h = absurd h

-- the middle test is read only where the two before it pass
middle : (r a b b' c d : Bool) → (T a → b ≡ b') → (r && a && b && c && d) ≡ (r && a && b' && c && d)
middle r true b b' c d h = ap (λ (x : Bool). r && true && x && c && d) (h tt)
middle true false b b' c d h = refl
middle false false b b' c d h = refl

-- the last test is read only where the first passes
last : (a b c d d' : Bool) → (T a → d ≡ d') → (a && b && c && d) ≡ (a && b && c && d')
last true b c d d' h = ap (λ (x : Bool). b && c && x) (h tt)
last false b c d d' h = refl

module _ (G : LearnerGraph) (t : Table) (rn : Round) (wn : WordNotes) (bn : ByteNotes) (ps : List ℕ)
    (kn : AllNoted G t rn wn bn)
    (id : Id) (sig : ℕ) (prev : Option Id) (n : ℕ) (size : length t ≡ n) (small : n ≤ max_held)
    (back : (j : ℕ) → j ∈ ps → j < length t) where
  abbrev new : Held
  new = says id sig prev ps

  abbrev u : Table
  u = t ++ new ∷ []

  -- the places that it reaches, and its ballot: Reaching says the same of any notes that have as much
  rd : Reached t rn wn
  rd = reached_of G t rn wn bn kn

  ord : Ordered u
  ord = reaching.ord t rn wn ps rd id sig prev n size small back

  at_new : at u n ≡ new
  at_new = reaching.at_new t rn wn ps rd id sig prev n size small back

  signer_new : held_signer (at u n) ≡ sig
  unfolding held_signer
  signer_new = ap held_signer at_new

  -- ---- the places before it
  module _ (j : ℕ) (l : j < n) where
    at_old : at u j ≡ at t j
    at_old = reaching.at_old t rn wn ps rd id sig prev n size small back j l

    old : tree u j ≡ tree t j
    old = reaching.old t rn wn ps rd id sig prev n size small back j l

    kind_is : is_proposal_at rn j ≡ offered (at u j)
    kind_is = reaching.kind_is t rn wn ps rd id sig prev n size small back j l

    signer_is : get_or rn.signers j 0 ≡ held_signer (at u j)
    signer_is = kn.signer j (omega arith) ∙ ap held_signer (sym at_old)

    top_is : get_or wn.tops j 0 ≡ ballot_at u j
    top_is = reaching.top_is t rn wn ps rd id sig prev n size small back j l

    first_is : eqb (get_or bn.forms j 0) first_form ≡ is1b_at u j
    first_is = (kn.noted j (omega arith)).first ∙ ap is1b (sym old)

    second_is : eqb (get_or bn.forms j 0) second_form ≡ is2a_at u j
    second_is = (kn.noted j (omega arith)).second ∙ ap is2a (sym old)

    learning_is : (a : ℕ) → a < G.learners → has (get_or bn.learners j 0) a ≡ lrns_at u G j a
    learning_is a la = (kn.noted j (omega arith)).learning a la ∙ ap (λ (m : Message). lrns G m a) (sym old)

    freshly_is : (a : ℕ) → a < G.learners → T (is1b_at u j) → has (get_or bn.fresh j 0) a ≡ fresh_at u G a j
    freshly_is a la one =
        (kn.noted j (omega arith)).freshly a la (subst (λ (m : Message). T (is1b m)) old one) ∙ ap (λ (m : Message). fresh G a m) (sym old)

  module _ (lo hi bal : ℕ) (o : Bool) (bt : Beneath rn wn ps lo hi bal o) where
    beneath_told : (j : ℕ) → j < n → in_set lo hi j ≡ reach u n j
    beneath_told = reaching.beneath_told t rn wn ps rd id sig prev n size small back lo hi bal o bt

    ballot_told : bal ≡ ballot_at u n
    ballot_told = reaching.ballot_told t rn wn ps rd id sig prev n size small back lo hi bal o bt

    first_told : is1b_at u n ≡ o
    first_told = reaching.first_told t rn wn ps rd id sig prev n size small back lo hi bal o bt

    second_told : is2a_at u n ≡ not o
    second_told = reaching.second_told t rn wn ps rd id sig prev n size small back lo hi bal o bt

    -- ---- lrns
    module _ (mask : ℕ) (k : ℕ) (hk : k ≡ pick (not o) G.learners 0)
        (hl : (q : ℕ) → has mask q ≡ any (λ a. is_quorum G a (backed_by rn wn bn n lo hi bal a) && eqb a q) (below k)) where
      backed_told : (a p : ℕ) → a < G.learners → backed_by rn wn bn n lo hi bal a p
          ≡ any (λ j. reach u n j && (is1b_at u j && fresh_at u G a j && eqb (ballot_at u j) (ballot_at u n) && eqb (held_signer (at u j)) p)) (below n)
      backed_told a p la = any_cong _ _ (below n) (λ j m. step j (below_out n m))
        where
          step : (j : ℕ) → j < n → (is_backer wn bn lo hi a bal j && eqb (get_or rn.signers j 0) p)
              ≡ (reach u n j && (is1b_at u j && fresh_at u G a j && eqb (ballot_at u j) (ballot_at u n) && eqb (held_signer (at u j)) p))
          step j l =
              (λ e. beneath_told j l e && first_is j l e && has (get_or bn.fresh j 0) a && eqb (top_is j l e) (ballot_told e) && eqb (signer_is j l e) p)
              ∙ middle (reach u n j) (is1b_at u j) (has (get_or bn.fresh j 0) a) (fresh_at u G a j) (eqb (ballot_at u j) (ballot_at u n)) (eqb (held_signer (at u j)) p) (freshly_is j l a la)
              ∙ front (reach u n j) (is1b_at u j) (fresh_at u G a j) (eqb (ballot_at u j) (ballot_at u n)) (eqb (held_signer (at u j)) p)

      quorum_told : (a : ℕ) → a < G.learners → (not o && is_quorum G a (backed_by rn wn bn n lo hi bal a)) ≡ lrns_at u G n a
      quorum_told a la =
          ap₂ ◌&&◌ (sym second_told) (quorum_cong G a (backed_by rn wn bn n lo hi bal a)
          (λ p. any (λ j. reach u n j && (is1b_at u j && fresh_at u G a j && eqb (ballot_at u j) (ballot_at u n) && eqb (held_signer (at u j)) p)) (below n)) (λ p lp. backed_told a p la))
          ∙ sym (lrns_at_lem u G ord n n (omega arith) a)

      within : (a : ℕ) → a < G.learners → (z : Bool) → k ≡ pick z G.learners 0 → ltb a k ≡ z
      within a la true e = ap (ltb a) e ∙ lt-ltb a G.learners la
      within a la false e = ap (ltb a) e ∙ le-ltb a 0 (omega arith)

      member : (a : ℕ) → T (has mask a) → a < k
      member a h = ltb→lt a k (and_l (ltb a k) (is_quorum G a (backed_by rn wn bn n lo hi bal a))
          (subst T (hl a ∙ any_at (λ a. is_quorum G a (backed_by rn wn bn n lo hi bal a)) k a) h))

      learning_told : (a : ℕ) → a < G.learners → has mask a ≡ lrns_at u G n a
      learning_told a la =
          hl a ∙ any_at (λ a. is_quorum G a (backed_by rn wn bn n lo hi bal a)) k a
          ∙ ap (λ (z : Bool). z && is_quorum G a (backed_by rn wn bn n lo hi bal a)) (within a la (not o) hk)
          ∙ quorum_told a la

      outside : (a : ℕ) → T (has mask a) → a < G.learners
      outside a h = let g = member a h in let e = fewer (not o) hk in omega arith
        where
          fewer : (z : Bool) → k ≡ pick z G.learners 0 → k ≤ G.learners
          fewer true e = omega arith
          fewer false e = omega arith

    -- ---- fresh
    module _ (mask against free k v : ℕ) (hv : v ≡ value_of bal) (hk : k ≡ pick o G.learners 0) (hc : (p : ℕ) → p < G.acceptors → has mask p ≡ caught_at u n p)
        (ha : (q : ℕ) → has against q ≡ any (λ b. is_barred rn wn bn n lo hi sig v b && eqb b q) (below k))
        (hr : (q : ℕ) → has free q ≡ any (λ a. not (any (λ b. safe_without G a b (has mask) && has against b) (below G.learners)) && eqb a q) (below k))
        (one : T (is1b_at u n)) where
      all_learners : k ≡ G.learners
      all_learners = hk ∙ ap (λ (z : Bool). pick z G.learners 0) (is_true o (subst T first_told one))

      module _ (b : ℕ) (lb : b < G.learners) where
        over_is : (j k : ℕ) → j < n → k < n
            → (ltb (get_or wn.tops j 0) (vote_ballot wn bn lo hi b k) && not (eqb (value_of (vote_ballot wn bn lo hi b k)) (value_of (get_or wn.tops j 0))))
            ≡ (reach u n k && (is2a_at u k && lrns_at u G k b && (ltb (ballot_at u j) (ballot_at u k) && not (eqb (value_at u k) (value_at u j)))))
        unfolding value
        over_is j k lj lk =
            picked (is_vote bn lo hi b k) (get_or wn.tops j 0) (get_or wn.tops k 0)
            ∙ (λ e. beneath_told k lk e && second_is k lk e && learning_is k lk b lb e && (ltb (top_is j lj e) (top_is k lk e) && not (eqb (value_of (top_is k lk e)) (value_of (top_is j lj e)))))
            ∙ regroup (reach u n k) (is2a_at u k) (lrns_at u G k b) (ltb (ballot_at u j) (ballot_at u k)) (not (eqb (value_at u k) (value_at u j)))

        abbrev peak : ℕ → ℕ
        peak = vote_ballot wn bn lo hi b

        buried_told : (j : ℕ) → j < n → is_buried (peaks_of peak n).best (peaks_of peak n).other (get_or wn.tops j 0) ≡ buried_at u G b j n
        buried_told j lj =
            buried_by_peaks peak n (get_or wn.tops j 0) ∙ any_cong _ _ (below n) (λ k m. over_is j k lj (below_out n m)) ∙ sym (buried_at_lem u G ord n n (omega arith) one b j)

        abbrev opposes : ℕ → Bool
        opposes j =
            reach u n j && is2a_at u j && lrns_at u G j b && eqb (held_signer (at u j)) (held_signer (at u n)) && not (eqb (value_at u j) (value_at u n)) && not (buried_at u G b j n)

        abbrev opposed : ℕ → Bool
        opposed = is_opposed rn wn bn lo hi b sig v (peaks_of peak n)

        opposed_told : (j : ℕ) → j < n → opposed j ≡ opposes j
        unfolding value
        opposed_told j l =
            let s : sig ≡ held_signer (at u n) = sym signer_new in
            let w : v ≡ value_of (ballot_at u n) = hv ∙ ap value_of ballot_told in
            λ e. beneath_told j l e && second_is j l e && learning_is j l b lb e && eqb (signer_is j l e) (s e) && not (eqb (value_of (top_is j l e)) (w e)) && not (buried_told j l e)

        barred_told : has against b ≡ any opposed (below n)
        barred_told = ha b ∙ any_at (is_barred rn wn bn n lo hi sig v) k b ∙ and_true (ltb b k) (any opposed (below n)) (lt→ltb b k (let e = all_learners in omega arith))

      connected_told : (a b : ℕ) → safe_without G a b (has mask) ≡ con_at u G a n b
      connected_told a b = without_cong G a b (has mask) (caught_at u n) hc ∙ sym (con_at_lem u G n a b)

      module _ (a : ℕ) (la : a < G.learners) where
        abbrev bars : ℕ → Bool
        bars b = safe_without G a b (has mask) && has against b

        abbrev stands : ℕ → ℕ → Bool
        stands j b = lrns_at u G j b && con_at u G a n b && not (buried_at u G b j n)

        abbrev own : ℕ → Bool
        own j = is2a_at u j && eqb (held_signer (at u j)) (held_signer (at u n)) && any (stands j) (below G.learners)

        abbrev agrees : ℕ → Bool
        agrees j = not (reach u n j) || (not (own j) || eqb (value_at u j) (value_at u n))

        to : T (not (any bars (below G.learners))) → T (all agrees (below n))
        to h = all_in agrees (below n) (λ j m. imp_in (reach u n j) (not (own j) || eqb (value_at u j) (value_at u n)) (λ r.
            imp_in (own j) (eqb (value_at u j) (value_at u n)) (λ c. step j (below_out n m) r c (dec_T (eqb (value_at u j) (value_at u n))))))
          where
            step : (j : ℕ) → j < n → T (reach u n j) → T (own j) → T (eqb (value_at u j) (value_at u n)) ⊎ T (not (eqb (value_at u j) (value_at u n))) → T (eqb (value_at u j) (value_at u n))
            step j l r c (inl e) = e
            step j l r c (inr d) =
                let two : T (is2a_at u j) = search (and_l, and_r) in
                let s : T (eqb (held_signer (at u j)) (held_signer (at u n))) = search (and_l, and_r) in
                let (b, m, w) = any_out (stands j) (below G.learners) (and_r (is2a_at u j && eqb (held_signer (at u j)) (held_signer (at u n))) (any (stands j) (below G.learners)) c) in
                let lb = below_out G.learners m in
                let x : T (lrns_at u G j b) = and_l (lrns_at u G j b) (con_at u G a n b) (and_l (lrns_at u G j b && con_at u G a n b) (not (buried_at u G b j n)) w) in
                let y : T (con_at u G a n b) = and_r (lrns_at u G j b) (con_at u G a n b) (and_l (lrns_at u G j b && con_at u G a n b) (not (buried_at u G b j n)) w) in
                let z : T (not (buried_at u G b j n)) = and_r (lrns_at u G j b && con_at u G a n b) (not (buried_at u G b j n)) w in
                let q : T (opposes b lb j) =
                and_in (reach u n j && is2a_at u j && lrns_at u G j b && eqb (held_signer (at u j)) (held_signer (at u n)) && not (eqb (value_at u j) (value_at u n))) (not (buried_at u G b j n))
                (and_in (reach u n j && is2a_at u j && lrns_at u G j b && eqb (held_signer (at u j)) (held_signer (at u n))) (not (eqb (value_at u j) (value_at u n)))
                (and_in (reach u n j && is2a_at u j && lrns_at u G j b) (eqb (held_signer (at u j)) (held_signer (at u n)))
                (and_in (reach u n j && is2a_at u j) (lrns_at u G j b) (and_in (reach u n j) (is2a_at u j) r two) x) s) d) z in
                let g : T (has against b) = subst T (sym (barred_told b lb)) (any_in (opposed b lb) {x = j} (below_in n l) (subst T (sym (opposed_told b lb j l)) q)) in
                absurd (T_not (any bars (below G.learners)) h (any_in bars {x = b} (below_in G.learners lb)
                (and_in (safe_without G a b (has mask)) (has against b) (subst T (sym (connected_told a b)) y) g)))

        from : T (all agrees (below n)) → T (not (any bars (below G.learners)))
        from h = not_T (any bars (below G.learners)) (λ s.
            let (b, m, w) = any_out bars (below G.learners) s in
            let lb = below_out G.learners m in
            let y : T (con_at u G a n b) = subst T (connected_told a b) (and_l (safe_without G a b (has mask)) (has against b) w) in
            let (j, mj, q) = any_out (opposed b lb) (below n) (subst T (barred_told b lb) (and_r (safe_without G a b (has mask)) (has against b) w)) in
            let l = below_out n mj in
            step b lb y j l (subst T (opposed_told b lb j l) q))
          where
            step : (b : ℕ) (lb : b < G.learners) → T (con_at u G a n b) → (j : ℕ) → j < n → T (opposes b lb j) → ⊥
            step b lb y j l q =
                let z : T (not (buried_at u G b j n)) = and_r (reach u n j && is2a_at u j && lrns_at u G j b && eqb (held_signer (at u j)) (held_signer (at u n)) && not (eqb (value_at u j) (value_at u n))) (not (buried_at u G b j n)) q in
                let q₁ = and_l (reach u n j && is2a_at u j && lrns_at u G j b && eqb (held_signer (at u j)) (held_signer (at u n)) && not (eqb (value_at u j) (value_at u n))) (not (buried_at u G b j n)) q in
                let d : T (not (eqb (value_at u j) (value_at u n))) = and_r (reach u n j && is2a_at u j && lrns_at u G j b && eqb (held_signer (at u j)) (held_signer (at u n))) (not (eqb (value_at u j) (value_at u n))) q₁ in
                let q₂ = and_l (reach u n j && is2a_at u j && lrns_at u G j b && eqb (held_signer (at u j)) (held_signer (at u n))) (not (eqb (value_at u j) (value_at u n))) q₁ in
                let s : T (eqb (held_signer (at u j)) (held_signer (at u n))) = and_r (reach u n j && is2a_at u j && lrns_at u G j b) (eqb (held_signer (at u j)) (held_signer (at u n))) q₂ in
                let q₃ = and_l (reach u n j && is2a_at u j && lrns_at u G j b) (eqb (held_signer (at u j)) (held_signer (at u n))) q₂ in
                let x : T (lrns_at u G j b) = and_r (reach u n j && is2a_at u j) (lrns_at u G j b) q₃ in
                let q₄ = and_l (reach u n j && is2a_at u j) (lrns_at u G j b) q₃ in
                let c : T (own j) =
                and_in (is2a_at u j && eqb (held_signer (at u j)) (held_signer (at u n))) (any (stands j) (below G.learners))
                (and_in (is2a_at u j) (eqb (held_signer (at u j)) (held_signer (at u n))) (and_r (reach u n j) (is2a_at u j) q₄) s)
                (any_in (stands j) {x = b} (below_in G.learners lb)
                (and_in (lrns_at u G j b && con_at u G a n b) (not (buried_at u G b j n)) (and_in (lrns_at u G j b) (con_at u G a n b) x y) z)) in
                T_not (eqb (value_at u j) (value_at u n)) d
                (imp_out (own j) (eqb (value_at u j) (value_at u n)) (imp_out (reach u n j) (not (own j) || eqb (value_at u j) (value_at u n)) (all_out agrees {x = j} (below_in n l) h)
                (and_l (reach u n j) (is2a_at u j) q₄)) c)

        fresh_told : has free a ≡ fresh_at u G a n
        fresh_told =
            hr a ∙ any_at (λ a. not (any (λ b. safe_without G a b (has mask) && has against b) (below G.learners))) k a
            ∙ and_true (ltb a k) (not (any bars (below G.learners))) (lt→ltb a k (let e = all_learners in omega arith))
            ∙ same_test (not (any bars (below G.learners))) (all agrees (below n)) to from
            ∙ sym (fresh_at_lem u G ord n n (omega arith) one a)

    -- ---- a new message is judged
    abbrev alone : ℕ → Bool
    alone = reaching.alone t rn wn ps rd id sig prev n size small back lo hi bal o bt

    -- a 2a: whether it has learners, and whether it repeats a vote
    module _ (mask : ℕ) (hl : (q : ℕ) → has mask q ≡ any (λ a. is_quorum G a (backed_by rn wn bn n lo hi bal a) && eqb a q) (below G.learners)) (two : o ≡ false) where
      all_asked : G.learners ≡ pick (not o) G.learners 0
      all_asked = ap (λ (z : Bool). pick (not z) G.learners 0) (sym two)

      learners_told : not (eqb mask 0) ≡ any (lrns_at u G n) (below G.learners)
      learners_told = same_test _ _ to from
        where
          to : T (not (eqb mask 0)) → T (any (lrns_at u G n) (below G.learners))
          to h =
              let (a, m) = some_member mask h in
              let l = outside mask G.learners all_asked hl a m in
              any_in (lrns_at u G n) {x = a} (below_in G.learners l) (subst T (learning_told mask G.learners all_asked hl a l) m)

          from : T (any (lrns_at u G n) (below G.learners)) → T (not (eqb mask 0))
          from h =
              let (a, m, q) = any_out (lrns_at u G n) (below G.learners) h in
              let k : T (has mask a) = subst T (sym (learning_told mask G.learners all_asked hl a (below_out G.learners m))) q in
              not_T (eqb mask 0) (λ e. subst T (has_zero a) (subst (λ (x : ℕ). T (has x a)) (eqb→eq mask 0 e) k))

      -- a held message has its learners
      same_told : (j : ℕ) → j < n → eqb (get_or bn.learners j 0) mask ≡ all (λ a. beq (lrns_at u G j a) (lrns_at u G n a)) (below G.learners)
      same_told j l =
          same_below G.learners (get_or bn.learners j 0) mask (kn.noted j (omega arith)).within (outside mask G.learners all_asked hl)
          ∙ all_cong _ _ (below G.learners) (λ a m. let la = below_out G.learners m in ap₂ beq (learning_is j l a la) (learning_told mask G.learners all_asked hl a la))

      -- the link tells the ids of the places from its previous id
      module _ (link : ℕ) (linked : (j : ℕ) → j < length t → eqb (get_or bn.names j 0) link ≡ same_previous prev (some (held_id (at t j)))) where
        abbrev repeats : ℕ → Bool
        repeats j =
            same_previous prev (some (held_id (at u j))) && is2a_at u j && eqb (ballot_at u j) (ballot_at u n) && all (λ a. beq (lrns_at u G j a) (lrns_at u G n a)) (below G.learners)

        repeat_told : (j : ℕ) → j < n → is_repeat wn bn link bal mask j ≡ repeats j
        repeat_told j l =
            let k : eqb (get_or bn.names j 0) link ≡ same_previous prev (some (held_id (at u j))) = linked j (omega arith) ∙ ap (λ (r : Held). same_previous prev (some (held_id r))) (sym (at_old j l)) in
            λ e. k e && second_is j l e && eqb (top_is j l e) (ballot_told e) && same_told j l e

        repeats_told : any (is_repeat wn bn link bal mask) ps ≡ repeats_at u G n
        unfolding held_previous places
        repeats_told =
            any_cong (is_repeat wn bn link bal mask) repeats ps (λ j m. let g = back j m in repeat_told j (omega arith))
            ∙ sym (repeats_at_lem u G n ord ∙ ap (λ (r : Held). any (λ j. same_previous (held_previous r) (some (held_id (at u j))) && is2a_at u j && eqb (ballot_at u j) (ballot_at u n)
            && all (λ a. beq (lrns_at u G j a) (lrns_at u G n a)) (below G.learners)) (places r)) at_new)

        pub second_judged : (repeated : Bool) → repeated ≡ any (is_repeat wn bn link bal mask) ps → Judged G (node_by (tree t) new) (record { formed1b = true; formed2a = not (eqb mask 0) && not repeated })
        second_judged repeated hr =
            reaching.judged t rn wn ps rd id sig prev n size small back lo hi bal o bt G true (not (eqb mask 0) && not repeated)
            (sym (formed1b_at_lem u ord n n (omega arith) ∙ ap (λ (z : Bool). not z || all alone (below n)) (first_told ∙ two)))
            (ap₂ (λ (x y : Bool). x && not y) learners_told (hr ∙ repeats_told)
            ∙ sym (formed2a_at_lem u G n ∙ ap (λ (z : Bool). not z || (any (lrns_at u G n) (below G.learners) && not (repeats_at u G n))) (second_told ∙ ap not two)))

    -- ---- a message that a name and a link tell from those held
    module _ (name link : ℕ) (ca : Candidate t rn bn ps id prev name link) where
      module _ (j : ℕ) (l : j < n) where
        id_is : eqb (get_or bn.names j 0) name ≡ same_id (held_id (at u j)) id
        id_is = ca.named j (omega arith) ∙ ap (λ (r : Held). same_id (held_id r) id) (sym (at_old j l))

        previous_is : T (not (offered (at u j))) → eqb (get_or bn.names (get_or rn.previous j 0) 0) link ≡ same_previous (held_previous (at u j)) prev
        previous_is h = ca.linked j (omega arith) (subst (λ (r : Held). T (not (offered r))) (at_old j l) h) ∙ ap (λ (r : Held). same_previous (held_previous r) prev) (sym (at_old j l))

        fork_is : is_fork rn bn sig name link j ≡ forks (tree u j) (tree u n)
        unfolding forks_held offered held_signer held_id held_previous
        fork_is =
            (λ e. not (kind_is j l e) && eqb (signer_is j l e) sig && not (id_is e) && eqb (get_or bn.names (get_or rn.previous j 0) 0) link)
            ∙ last (not (offered (at u j))) (eqb (held_signer (at u j)) sig) (not (same_id (held_id (at u j)) id)) (eqb (get_or bn.names (get_or rn.previous j 0) 0) link)
            (same_previous (held_previous (at u j)) prev) previous_is
            ∙ pad (not (offered (at u j))) (eqb (held_signer (at u j)) sig) (not (same_id (held_id (at u j)) id)) (same_previous (held_previous (at u j)) prev)
            ∙ sym (forks_at u u j n ∙ ap (forks_held (at u j)) at_new)

      module _ (fl fh : ℕ) (hf : (q : ℕ) → q < max_held → in_set fl fh q ≡ any (λ j. is_fork rn bn sig name link j && eqb j q) (below n)) where
        pub forking_told : (j : ℕ) → j < max_held → in_set fl fh j ≡ (ltb j n && forks (tree u j) (tree u n))
        forking_told j l =
            hf j l ∙ any_at (is_fork rn bn sig name link) n j
            ∙ and_cong (ltb j n) (is_fork rn bn sig name link j) (forks (tree u j) (tree u n)) (λ t. fork_is j (ltb→lt j n t))

      -- ---- Caught
      module _ (fl fh others mask : ℕ) (hf : (q : ℕ) → q < max_held → in_set fl fh q ≡ any (λ j. is_fork rn bn sig name link j && eqb j q) (below n))
          (p : ℕ) (ho : has others p ≡ any (λ j. is_caught wn lo hi j && eqb (get_or rn.signers j 0) p) (below n))
          (hm : has mask p ≡ ((meets lo hi fl fh && eqb sig p) || has others p)) where
        abbrev inner : ℕ → ℕ → Bool
        inner j k = reach u n k && forks_held (at u j) (at u k)

        abbrev outer : ℕ → Bool
        outer j = reach u n j && (any (inner j) (below (suc n)) && eqb (held_signer (at u j)) p)

        there : (j k : ℕ) → j < suc n → k < suc n → T (reach u n j) → T (reach u n k) → T (forks_held (at u j) (at u k)) → held_signer (at u j) ≡ p → T (any outer (below (suc n)))
        there j k lj lk rj rk f e =
            let i : T (any (inner j) (below (suc n))) = any_in (inner j) {x = k} (below_in (suc n) lk) (and_in (reach u n k) (forks_held (at u j) (at u k)) rk f) in
            let s : T (eqb (held_signer (at u j)) p) = eq→eqb e in
            any_in outer {x = j} (below_in (suc n) lj)
            (and_in (reach u n j) (any (inner j) (below (suc n)) && eqb (held_signer (at u j)) p) rj (and_in (any (inner j) (below (suc n))) (eqb (held_signer (at u j)) p) i s))

        abbrev one : ℕ → Bool
        one j = is_caught wn lo hi j && eqb (get_or rn.signers j 0) p

        -- two places that fork, the second below n
        held_fork : (j k : ℕ) → j < n → (in_set (get_or wn.forklow j 0) (get_or wn.forkhigh j 0) k) ≡ (ltb k j && forks (tree t k) (tree t j)) → k < j
            → (in_set (get_or wn.forklow j 0) (get_or wn.forkhigh j 0) k) ≡ forks_held (at u k) (at u j)
        held_fork j k l e g =
            e ∙ and_true (ltb k j) (forks (tree t k) (tree t j)) (lt→ltb k j g) ∙ ap₂ forks (sym (old k (omega arith))) (sym (old j l)) ∙ forks_at u u k j

        mine : T (meets lo hi fl fh) → T (eqb sig p) → T (any outer (below (suc n)))
        unfolding meets
        mine m s =
            let (k, q, h) = any_out (λ k. in_set lo hi k && in_set fl fh k) (below max_held) m in
            let lk = below_out max_held q in
            let f : T (ltb k n && forks (tree u k) (tree u n)) = subst T (forking_told fl fh hf k lk) (and_r (in_set lo hi k) (in_set fl fh k) h) in
            let ln = ltb→lt k n (and_l (ltb k n) (forks (tree u k) (tree u n)) f) in
            let g : T (forks_held (at u k) (at u n)) = subst T (forks_at u u k n) (and_r (ltb k n) (forks (tree u k) (tree u n)) f) in
            let r : T (reach u n k) = subst T (beneath_told k ln) (and_l (in_set lo hi k) (in_set fl fh k) h) in
            there k n (omega arith) (omega arith) r (reach_self u ord n) g (fork_signer (at u k) (at u n) g ∙ signer_new ∙ eqb→eq sig p s)

        theirs : T (any one (below n)) → T (any outer (below (suc n)))
        unfolding meets
        theirs h =
            let (j, m, q) = any_out one (below n) h in
            let lj = below_out n m in
            let c : T (is_caught wn lo hi j) = and_l (is_caught wn lo hi j) (eqb (get_or rn.signers j 0) p) q in
            let (k, mk, w) = any_out (λ k. in_set lo hi k && in_set (get_or wn.forklow j 0) (get_or wn.forkhigh j 0) k) (below max_held)
            (and_r (in_set lo hi j) (meets lo hi (get_or wn.forklow j 0) (get_or wn.forkhigh j 0)) c) in
            let lk = below_out max_held mk in
            let x : T (in_set (get_or wn.forklow j 0) (get_or wn.forkhigh j 0) k) = and_r (in_set lo hi k) (in_set (get_or wn.forklow j 0) (get_or wn.forkhigh j 0) k) w in
            let e = (kn.noted j (omega arith)).forking k lk in
            let g : k < j = ltb→lt k j (and_l (ltb k j) (forks (tree t k) (tree t j)) (subst T e x)) in
            let f : T (forks_held (at u k) (at u j)) = subst T (held_fork j k lj e g) x in
            let rj : T (reach u n j) = subst T (beneath_told j lj) (and_l (in_set lo hi j) (meets lo hi (get_or wn.forklow j 0) (get_or wn.forkhigh j 0)) c) in
            let rk : T (reach u n k) = subst T (beneath_told k (omega arith)) (and_l (in_set lo hi k) (in_set (get_or wn.forklow j 0) (get_or wn.forkhigh j 0) k) w) in
            there k j (omega arith) (omega arith) rk rj f
            (fork_signer (at u k) (at u j) f ∙ sym (signer_is j lj) ∙ eqb→eq (get_or rn.signers j 0) p (and_r (is_caught wn lo hi j) (eqb (get_or rn.signers j 0) p) q))

        -- the later one of two that fork
        pair : (x y : ℕ) → x < y → y ≤ n → T (reach u n x) → T (reach u n y) → T (forks_held (at u x) (at u y)) → held_signer (at u y) ≡ p
            → T ((meets lo hi fl fh && eqb sig p) || any one (below n))
        unfolding meets
        pair x y g ly rx ry f e = step (dec_lt y n)
          where
            sx : T (in_set lo hi x)
            sx = subst T (sym (beneath_told x (omega arith))) rx

            step : Dec (y < n) → T ((meets lo hi fl fh && eqb sig p) || any one (below n))
            step (yes l) =
                let sy : T (in_set lo hi y) = subst T (sym (beneath_told y l)) ry in
                let k : T (in_set (get_or wn.forklow y 0) (get_or wn.forkhigh y 0) x) = subst T (sym (held_fork y x l ((kn.noted y (omega arith)).forking x (omega arith)) g)) f in
                let m : T (meets lo hi (get_or wn.forklow y 0) (get_or wn.forkhigh y 0)) = any_in (λ k. in_set lo hi k && in_set (get_or wn.forklow y 0) (get_or wn.forkhigh y 0) k) {x = x} (below_in max_held (omega arith))
                (and_in (in_set lo hi x) (in_set (get_or wn.forklow y 0) (get_or wn.forkhigh y 0) x) sx k) in
                let s : T (eqb (get_or rn.signers y 0) p) = eq→eqb (signer_is y l ∙ e) in
                or_r (meets lo hi fl fh && eqb sig p) (any one (below n))
                (any_in one {x = y} (below_in n l) (and_in (is_caught wn lo hi y) (eqb (get_or rn.signers y 0) p)
                (and_in (in_set lo hi y) (meets lo hi (get_or wn.forklow y 0) (get_or wn.forkhigh y 0)) sy m) s))
            step (no l) =
                let d : y ≡ n = omega arith in
                let ln : x < n = omega arith in
                let f' : T (forks_held (at u x) (at u n)) = subst (λ (z : ℕ). T (forks_held (at u x) (at u z))) d f in
                let k : T (in_set fl fh x) = subst T (sym (forking_told fl fh hf x (omega arith)))
                (and_in (ltb x n) (forks (tree u x) (tree u n)) (lt→ltb x n ln) (subst T (sym (forks_at u u x n)) f')) in
                let m : T (meets lo hi fl fh) = any_in (λ k. in_set lo hi k && in_set fl fh k) {x = x} (below_in max_held (omega arith)) (and_in (in_set lo hi x) (in_set fl fh x) sx k) in
                let s : T (eqb sig p) = eq→eqb (sym signer_new ∙ ap (λ (z : ℕ). held_signer (at u z)) (sym d) ∙ e) in
                or_l (meets lo hi fl fh && eqb sig p) (any one (below n)) (and_in (meets lo hi fl fh) (eqb sig p) m s)

        caught_told : has mask p ≡ caught_at u n p
        caught_told = hm ∙ ap (λ (x : Bool). (meets lo hi fl fh && eqb sig p) || x) ho ∙ same_test _ _ to from ∙ sym (caught_at_lem u ord n p (suc n) (omega arith))
          where
            to : T ((meets lo hi fl fh && eqb sig p) || any one (below n)) → T (any outer (below (suc n)))
            to h = step (or_out (meets lo hi fl fh && eqb sig p) (any one (below n)) h)
              where
                step : T (meets lo hi fl fh && eqb sig p) ⊎ T (any one (below n)) → T (any outer (below (suc n)))
                step (inl k) = mine (and_l (meets lo hi fl fh) (eqb sig p) k) (and_r (meets lo hi fl fh) (eqb sig p) k)
                step (inr k) = theirs k

            from : T (any outer (below (suc n))) → T ((meets lo hi fl fh && eqb sig p) || any one (below n))
            from h =
                let (j, m, q) = any_out outer (below (suc n)) h in
                let r : T (any (inner j) (below (suc n)) && eqb (held_signer (at u j)) p) = and_r (reach u n j) (any (inner j) (below (suc n)) && eqb (held_signer (at u j)) p) q in
                let (k, mk, w) = any_out (inner j) (below (suc n)) (and_l (any (inner j) (below (suc n))) (eqb (held_signer (at u j)) p) r) in
                let lj = below_out (suc n) m in
                let lk = below_out (suc n) mk in
                let rj : T (reach u n j) = and_l (reach u n j) (any (inner j) (below (suc n)) && eqb (held_signer (at u j)) p) q in
                let rk : T (reach u n k) = and_l (reach u n k) (forks_held (at u j) (at u k)) w in
                let f : T (forks_held (at u j) (at u k)) = and_r (reach u n k) (forks_held (at u j) (at u k)) w in
                let e : held_signer (at u j) ≡ p = eqb→eq (held_signer (at u j)) p (and_r (any (inner j) (below (suc n))) (eqb (held_signer (at u j)) p) r) in
                step j k lj lk rj rk f e (dec_lt j k) (dec_lt k j)
              where
                step : (j k : ℕ) → j < suc n → k < suc n → T (reach u n j) → T (reach u n k) → T (forks_held (at u j) (at u k)) → held_signer (at u j) ≡ p → Dec (j < k) → Dec (k < j)
                    → T ((meets lo hi fl fh && eqb sig p) || any one (below n))
                step j k lj lk rj rk f e (yes a) b = pair j k a (omega arith) rj rk f (sym (fork_signer (at u j) (at u k) f) ∙ e)
                step j k lj lk rj rk f e (no a) (yes b) = pair k j b (omega arith) rk rj (fork_swap (at u j) (at u k) f) e
                step j k lj lk rj rk f e (no a) (no b) =
                    let d : k ≡ j = omega arith in
                    absurd (fork_other (at u j) (subst (λ (z : ℕ). T (forks_held (at u j) (at u z))) d f))

      -- ---- all that is worked out
      pub told : (fl fh others mask against free learned firsts seconds v form : ℕ) → G.acceptors ≤ mask_bits
          → ((q : ℕ) → q < max_held → in_set fl fh q ≡ any (λ j. is_fork rn bn sig name link j && eqb j q) (below n))
          → ((p : ℕ) → p < mask_bits → has others p ≡ any (λ j. is_caught wn lo hi j && eqb (get_or rn.signers j 0) p) (below n))
          → ((p : ℕ) → p < mask_bits → has mask p ≡ ((meets lo hi fl fh && eqb sig p) || has others p))
          → firsts ≡ pick o G.learners 0 → v ≡ value_of bal
          → ((q : ℕ) → has against q ≡ any (λ b. is_barred rn wn bn n lo hi sig v b && eqb b q) (below firsts))
          → ((q : ℕ) → has free q ≡ any (λ a. not (any (λ b. safe_without G a b (has mask) && has against b) (below G.learners)) && eqb a q) (below firsts))
          → seconds ≡ pick (not o) G.learners 0
          → ((q : ℕ) → has learned q ≡ any (λ a. is_quorum G a (backed_by rn wn bn n lo hi bal a) && eqb a q) (below seconds))
          → form ≡ pick o 1 2
          → Told G u n (record { beneath = record { low = lo; high = hi }; forks = record { low = fl; high = fh }; ballot = bal; learners = learned; fresh = free; form = form })
      told fl fh others mask against free learned firsts seconds v form few hf ho hm hk hv ha hr hs hl hform =
          record {
            reaches = beneath_told;
            none = reaching.none_told t rn wn ps rd id sig prev n size small back lo hi bal o bt;
            forking = forking_told fl fh hf;
            ballot = ballot_told;
            first = ap (λ (x : ℕ). eqb x 1) hform ∙ firsts_form o ∙ sym first_told;
            second = ap (λ (x : ℕ). eqb x 2) hform ∙ seconds_form o ∙ sym second_told;
            learning = learning_told learned seconds hs hl;
            within = outside learned seconds hs hl;
            freshly = λ a la one. fresh_told mask against free firsts v hv hk caught ha hr one a la;
          }
        where
          caught : (p : ℕ) → p < G.acceptors → has mask p ≡ caught_at u n p
          caught p lp = caught_told fl fh others mask hf p (ho p (omega arith)) (hm p (omega arith))

          firsts_form : (z : Bool) → eqb (pick z 1 2) 1 ≡ z
          firsts_form true = refl
          firsts_form false = refl

          seconds_form : (z : Bool) → eqb (pick z 1 2) 2 ≡ not z
          seconds_form true = refl
          seconds_form false = refl

      -- a 1b: whether another message crowds it
      pub first_judged : (crowded : Bool) → crowded ≡ any (is_crowding rn wn bn lo hi name bal) (below n) → o ≡ true
          → Judged G (node_by (tree t) new) (record { formed1b = not crowded; formed2a = true })
      first_judged crowded hc one = reaching.first_judged t rn wn ps rd id sig prev n size small back lo hi bal o bt G bn name (λ j l. id_is j l) crowded hc one
