-- The peaks of some ballots answer Buried: a higher ballot of another value is among them exactly if one of the two peaks is one.
use mathlib.Core.Path.{◌≡◌, refl, sym, ap, subst, ◌∙◌}
use mathlib.Core.Logic.{◌⊎◌, inl, inr}
use mathlib.Core.Bool.{Bool, true, false, not, ◌&&◌, ◌||◌}
use Prim.Native.Nat.{ℕ, zero, suc, ◌≤◌, ◌<◌}
use native.Mathlib.Numerals.{add-one}
use native.Mathlib.Decide.{dec_lt, ℕ_discrete}
use native.Mathlib.Omega.{arith}
use borrow.Author.Tests.{le-ltb, ltb-true, ltb-false, eqb-true, eqb-false}
use lib.ListN.{get_or}
use lib.Dec.{T, eqb, ltb, ltb→lt, lt→ltb}
use Rattle.base.specs.Tests.{pick, any, below}
use Rattle.base.proofs.Tests.{same_test, and_in, and_l, and_r, or_l, or_r, or_out, neqb→ne, ne→neqb, any_in, any_out, below_in, below_out}
use Rattle.base.specs.Ballots.{value_of}
use Rattle.voting.specs.declared.Peaks.{Peaks}
use Rattle.places.specs.Inside.PlaceSets.{Covers}
use Rattle.round.specs.Round.{Round}
use Rattle.notes.specs.Inside.Layout.{WordNotes, ByteNotes}
use Rattle.voting.specs.Inside.Votes.{vote_ballot, raised, peaks_of, is_buried, is_opposed, is_rival, is_barred}
use Rattle.places.specs.declared.Places.{Places}
use Rattle.places.proofs.Going.{Skips}
use Rattle.places.proofs.Loops.{any_none, not_covered}

-- what the peaks of f 0, .., f (n - 1) are
record Peaked (f : ℕ → ℕ) (n : ℕ) (p : Peaks) : Type 0 where
  top : (j : ℕ) → j < n → f j ≤ p.best
  next : (j : ℕ) → j < n → (value_of (f j) ≡ value_of p.best → ⊥) → f j ≤ p.other
  best_at : (p.best ≡ 0) ⊎ ((j : ℕ) × (j < n) × (f j ≡ p.best))
  other_at : (p.other ≡ 0) ⊎ ((j : ℕ) × (j < n) × (f j ≡ p.other) × (value_of p.other ≡ value_of p.best → ⊥))

module _ (f : ℕ → ℕ) (n : ℕ) (p : Peaks) (h : Peaked f n p) where
  below_or_n : {P : ℕ → Type 0} → ((j : ℕ) → j < n → P j) → P n → (j : ℕ) → j < suc n → P j
  below_or_n {P} old new j l = step (dec_lt j n)
    where
      step : Dec (j < n) → P j
      step (yes a) = old j a
      step (no a) = let e : n ≡ j = omega arith in subst P e new

  keep : {x : ℕ} → (x ≡ 0) ⊎ ((j : ℕ) × (j < n) × (f j ≡ x)) → (x ≡ 0) ⊎ ((j : ℕ) × (j < suc n) × (f j ≡ x))
  keep (inl e) = inl e
  keep (inr (j, l, e)) = inr (j, omega arith, e)

  more : (a b c : Bool) → ltb p.best (f n) ≡ a → eqb (value_of (f n)) (value_of p.best) ≡ b → (ltb p.other (f n) && not (eqb (value_of (f n)) (value_of p.best))) ≡ c
      → Peaked f (suc n) (pick a (pick b (record { best = f n; other = p.other }) (record { best = f n; other = p.best })) (pick c (record { best = p.best; other = f n }) p))
  more true true c ea eb ec =
      let l = ltb-true p.best (f n) ea in
      let v = eqb-true (value_of (f n)) (value_of p.best) eb in
      record {
        top = below_or_n (λ j k. let t = h.top j k in omega arith) (omega arith);
        next = below_or_n (λ j k d. h.next j k (λ e. d (e ∙ sym v))) (λ d. absurd (d refl));
        best_at = inr (n, omega arith, refl);
        other_at = old v h.other_at;
      }
    where
      old : value_of (f n) ≡ value_of p.best → (p.other ≡ 0) ⊎ ((j : ℕ) × (j < n) × (f j ≡ p.other) × (value_of p.other ≡ value_of p.best → ⊥))
          → (p.other ≡ 0) ⊎ ((j : ℕ) × (j < suc n) × (f j ≡ p.other) × (value_of p.other ≡ value_of (f n) → ⊥))
      old v (inl e) = inl e
      old v (inr (j, l, e, d)) = inr (j, omega arith, e, λ q. d (q ∙ v))
  more true false c ea eb ec =
      let l = ltb-true p.best (f n) ea in
      record {
        top = below_or_n (λ j k. let t = h.top j k in omega arith) (omega arith);
        next = below_or_n (λ j k d. h.top j k) (λ d. absurd (d refl));
        best_at = inr (n, omega arith, refl);
        other_at = old h.best_at;
      }
    where
      old : (p.best ≡ 0) ⊎ ((j : ℕ) × (j < n) × (f j ≡ p.best)) → (p.best ≡ 0) ⊎ ((j : ℕ) × (j < suc n) × (f j ≡ p.best) × (value_of p.best ≡ value_of (f n) → ⊥))
      old (inl e) = inl e
      old (inr (j, l, e)) = inr (j, omega arith, e, λ q. eqb-false (value_of (f n)) (value_of p.best) eb (sym q))
  more false b true ea eb ec =
      let l = ltb-false p.best (f n) ea in
      let t : T (ltb p.other (f n) && not (eqb (value_of (f n)) (value_of p.best))) = subst T (sym ec) tt in
      let g = ltb→lt p.other (f n) (and_l (ltb p.other (f n)) (not (eqb (value_of (f n)) (value_of p.best))) t) in
      let d = neqb→ne (value_of (f n)) (value_of p.best) (and_r (ltb p.other (f n)) (not (eqb (value_of (f n)) (value_of p.best))) t) in
      record {
        top = below_or_n h.top (omega arith);
        next = below_or_n (λ j k d. let t = h.next j k d in omega arith) (λ d. omega arith);
        best_at = keep h.best_at;
        other_at = inr (n, omega arith, refl, d);
      }
  more false b false ea eb ec =
      let l = ltb-false p.best (f n) ea in
      record {
        top = below_or_n h.top (omega arith);
        next = below_or_n h.next (λ d. low d (dec_lt p.other (f n)));
        best_at = keep h.best_at;
        other_at = old h.other_at;
      }
    where
      low : (value_of (f n) ≡ value_of p.best → ⊥) → Dec (p.other < f n) → f n ≤ p.other
      low d (yes g) = absurd (subst T ec (and_in (ltb p.other (f n)) (not (eqb (value_of (f n)) (value_of p.best))) (lt→ltb p.other (f n) g) (ne→neqb (value_of (f n)) (value_of p.best) d)))
      low d (no g) = omega arith

      old : (p.other ≡ 0) ⊎ ((j : ℕ) × (j < n) × (f j ≡ p.other) × (value_of p.other ≡ value_of p.best → ⊥))
          → (p.other ≡ 0) ⊎ ((j : ℕ) × (j < suc n) × (f j ≡ p.other) × (value_of p.other ≡ value_of p.best → ⊥))
      old (inl e) = inl e
      old (inr (j, l, e, d)) = inr (j, omega arith, e, d)

  peaked_more : Peaked f (suc n) (raised p (f n))
  unfolding raised
  peaked_more = more (ltb p.best (f n)) (eqb (value_of (f n)) (value_of p.best)) (ltb p.other (f n) && not (eqb (value_of (f n)) (value_of p.best))) refl refl refl

peaked : (f : ℕ → ℕ) (n : ℕ) → Peaked f n (peaks_of f n)
unfolding peaks_of
peaked f zero = record { top = λ j l. absurd (omega arith); next = λ j l d. absurd (omega arith); best_at = inl refl; other_at = inl refl }
peaked f (suc n) = peaked_more f n (peaks_of f n) (peaked f n)

-- a ballot of 0 raises nothing
raised_none : (p : Peaks) → raised p 0 ≡ p
unfolding raised
raised_none p = simp (le-ltb p.best 0 (omega arith), le-ltb p.other 0 (omega arith))

-- nor do the places that are no votes
pub peaks_skips : (vote : ℕ → Bool) (top : ℕ → ℕ) (n : ℕ) (set : Places) → Covers n vote set.low set.high
    → Skips (λ (p : Peaks) (q : ℕ). raised p (pick (vote q) (top q) 0)) (peaks_of (λ q. pick (vote q) (top q) 0)) n set.low set.high
unfolding peaks_of
peaks_skips vote top n set cover =
    let f : ℕ → ℕ = λ q. pick (vote q) (top q) 0 in
    record {
      step = λ a l. ap (peaks_of f) (add-one a);
      skip = λ a l e. ap (peaks_of f) (add-one a) ∙ ap (λ (t : Bool). raised (peaks_of f a) (pick t (top a) 0)) (not_covered n vote set.low set.high a cover l e) ∙ raised_none (peaks_of f a);
    }

-- Buried as a comparison
pub buried_by_peaks : (f : ℕ → ℕ) (n x : ℕ)
    → is_buried (peaks_of f n).best (peaks_of f n).other x ≡ any (λ k. ltb x (f k) && not (eqb (value_of (f k)) (value_of x))) (below n)
buried_by_peaks f n x = go (peaks_of f n) (peaked f n)
  where
    over : ℕ → Bool
    over y = ltb x y && not (eqb (value_of y) (value_of x))

    go : (p : Peaks) → Peaked f n p → (over p.best || over p.other) ≡ any (λ k. over (f k)) (below n)
    go p h = same_test _ _ (λ t. to (or_out (over p.best) (over p.other) t)) from
      where
        at_place : (j y : ℕ) → j < n → f j ≡ y → T (over y) → T (any (λ k. over (f k)) (below n))
        at_place j y l e t = any_in (λ k. over (f k)) {x = j} (below_in n l) (subst (λ (z : ℕ). T (over z)) (sym e) t)

        above : (y : ℕ) → T (over y) → x < y
        above y t = ltb→lt x y (and_l (ltb x y) (not (eqb (value_of y) (value_of x))) t)

        first : T (over p.best) → (p.best ≡ 0) ⊎ ((j : ℕ) × (j < n) × (f j ≡ p.best)) → T (any (λ k. over (f k)) (below n))
        first t (inl e) = let l = above p.best t in absurd (omega arith)
        first t (inr (j, l, e)) = at_place j p.best l e t

        second : T (over p.other) → (p.other ≡ 0) ⊎ ((j : ℕ) × (j < n) × (f j ≡ p.other) × (value_of p.other ≡ value_of p.best → ⊥)) → T (any (λ k. over (f k)) (below n))
        second t (inl e) = let l = above p.other t in absurd (omega arith)
        second t (inr (j, l, e, d)) = at_place j p.other l e t

        to : T (over p.best) ⊎ T (over p.other) → T (any (λ k. over (f k)) (below n))
        to (inl t) = first t h.best_at
        to (inr t) = second t h.other_at

        pass : (y : ℕ) → x < y → (value_of y ≡ value_of x → ⊥) → T (over y)
        pass y l d = and_in (ltb x y) (not (eqb (value_of y) (value_of x))) (lt→ltb x y l) (ne→neqb (value_of y) (value_of x) d)

        from : T (any (λ k. over (f k)) (below n)) → T (over p.best || over p.other)
        from t =
            let (j, m, k) = any_out (λ k. over (f k)) (below n) t in
            let l = above (f j) k in
            let d = neqb→ne (value_of (f j)) (value_of x) (and_r (ltb x (f j)) (not (eqb (value_of (f j)) (value_of x))) k) in
            let b = h.top j (below_out n m) in
            step j (below_out n m) l d b (ℕ_discrete (value_of p.best) (value_of x))
          where
            attained : (l : x < p.other) → value_of p.best ≡ value_of x → (p.other ≡ 0) ⊎ ((j : ℕ) × (j < n) × (f j ≡ p.other) × (value_of p.other ≡ value_of p.best → ⊥)) → T (over p.other)
            attained l e (inl z) = absurd (omega arith)
            attained l e (inr (j, m, q, d)) = pass p.other l (λ r. d (r ∙ sym e))

            step : (j : ℕ) → j < n → x < f j → (value_of (f j) ≡ value_of x → ⊥) → f j ≤ p.best → Dec (value_of p.best ≡ value_of x) → T (over p.best || over p.other)
            step j m l d b (no e) = or_l (over p.best) (over p.other) (pass p.best (omega arith) e)
            step j m l d b (yes e) =
                let o = h.next j m (λ q. d (q ∙ e)) in
                or_r (over p.best) (over p.other) (attained (omega arith) e h.other_at)

-- an opposed place is a rival: where there is none of these, the learner is not barred
pub no_rival : (r : Round) (x : WordNotes) (y : ByteNotes) (n low high signer v b : ℕ) → any (is_rival r x y low high signer v b) (below n) ≡ false → is_barred r x y n low high signer v b ≡ false
no_rival r x y n low high signer v b e = none (peaks_of (vote_ballot x y low high b) n)
  where
    none : (p : Peaks) → any (is_opposed r x y low high b signer v p) (below n) ≡ false
    none p =
        any_none (is_opposed r x y low high b signer v p) n (λ j l t.
        subst T e (any_in (is_rival r x y low high signer v b) {x = j} (below_in n l)
        (and_l (is_rival r x y low high signer v b j) (not (is_buried p.best p.other (get_or x.tops j 0))) t)))
