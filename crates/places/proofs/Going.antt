-- A loop over the places of a set: what it has made when it is over.
use mathlib.Core.Path.{◌≡◌, refl, sym, ap, ap₂, ◌∙◌}
use mathlib.Core.Bool.{Bool, true, false, ◌||◌}
use mathlib.Core.List.{List, [], ◌∷◌}
use Prim.Native.Nat.{ℕ, zero, suc, ◌+◌, ◌-◌, ◌≤◌, ◌<◌}
use native.Mathlib.Decide.{ℕ_discrete}
use native.Mathlib.Omega.{arith}
use lib.Dec.{T}
use Rattle.base.specs.Tests.{pick, any, below}
use Rattle.places.specs.declared.Places.{Places}
use Rattle.places.specs.declared.Walk.{Walk}
use Rattle.places.specs.Inside.PlaceSets.{in_set, Covers, members}
use Rattle.places.proofs.Loops.{any_suc, not_covered}
use Rattle.places.proofs.Walks.{Passed}
use Rattle.round.specs.Limits.{max_held}

-- the places that are to come
abbrev pub coming : Walk → List ℕ
coming w = members w.rest.low w.rest.high 0 w.n

-- ---- a step for each of some places, front to back
unfoldable pub run : {B : Type 0} → (B → ℕ → B) → B → List ℕ → B
run g b [] = b
run g b (j ∷ l) = run g (g b j) l

-- f is what the steps make of 0 .. n, and a place that is not in the set changes nothing
pub record Skips {B : Type 0} (g : B → ℕ → B) (f : ℕ → B) (n low high : ℕ) : Type 0 where
  pub step : (a : ℕ) → a < n → f (a + 1) ≡ g (f a) a
  pub skip : (a : ℕ) → a < n → in_set low high a ≡ false → f (a + 1) ≡ f a

module _ {B : Type 0} (g : B → ℕ → B) (f : ℕ → B) where
  run_members : (n low high : ℕ) → Skips g f n low high → (a k : ℕ) → a + k ≡ n → run g (f a) (members low high a k) ≡ f n
  unfolding run members
  run_members n low high s a zero e = ap f (omega arith)
  run_members n low high s a (suc k) e = go (in_set low high a) refl (run_members n low high s (a + 1) k (omega arith))
    where
      go : (b : Bool) → in_set low high a ≡ b → run g (f (a + 1)) (members low high (a + 1) k) ≡ f n → run g (f a) (pick b (a ∷ members low high (a + 1) k) (members low high (a + 1) k)) ≡ f n
      go true t rest = ap (λ (x : B). run g x (members low high (a + 1) k)) (sym (s.step a (omega arith))) ∙ rest
      go false t rest = ap (λ (x : B). run g x (members low high (a + 1) k)) (sym (s.skip a (omega arith) t)) ∙ rest

  -- what is left to do when a loop begins,
  pub run_begun : (n : ℕ) (set : Places) (w it : Walk) (b : B) → it ≡ w → (w.rest ≡ set) × (w.n ≡ n) → Skips g f n set.low set.high → b ≡ f 0 → run g b (coming it) ≡ f n
  run_begun n set w it b e h s z =
      ap₂ (run g) z (ap coming e ∙ ap₂ (λ (p : Places) (k : ℕ). members p.low p.high 0 k) h.0 h.1) ∙ run_members n set.low set.high s 0 n (omega arith)

  -- after one more place,
  pub run_on : {l l' : List ℕ} {j : ℕ} {b b' t : B} → l ≡ j ∷ l' → run g b l ≡ t → b' ≡ g b j → run g b' l' ≡ t
  unfolding run
  run_on {l} {l'} {j} {b} {b'} {t} e h s = ap (λ (x : B). run g x l') s ∙ sym (ap (run g b) e) ∙ h

  -- and at its end
  pub run_over : {l : List ℕ} {b t : B} → l ≡ [] → run g b l ≡ t → b ≡ t
  unfolding run
  run_over {l} {b} {t} e h = sym (ap (run g b) e) ∙ h

-- ---- from place a on: the next place that comes, and what comes behind it
record Next (low high a k j : ℕ) (l : List ℕ) : Type 0 where
  from : a ≤ j
  within : j < a + k
  none : (q : ℕ) → a ≤ q → q < j → in_set low high q ≡ false
  rest : l ≡ members low high (j + 1) (a + k - (j + 1))

module _ (low high : ℕ) where
  members_next : (a k j : ℕ) (l : List ℕ) → members low high a k ≡ j ∷ l → Next low high a k j l
  unfolding members
  members_next a zero j l e = absurd (cc)
  members_next a (suc k) j l e = go (in_set low high a) refl (λ t. members_next (a + 1) k j l t) e
    where
      go : (b : Bool) → in_set low high a ≡ b → (members low high (a + 1) k ≡ j ∷ l → Next low high (a + 1) k j l)
          → pick b (a ∷ members low high (a + 1) k) (members low high (a + 1) k) ≡ j ∷ l → Next low high a (suc k) j l
      go true u rest t =
          let q : a ≡ j = cc in
          let m : l ≡ members low high (a + 1) k = cc in
          record { from = omega arith; within = omega arith; none = λ p g h. absurd (omega arith); rest = m ∙ ap₂ (members low high) (omega arith) (omega arith) }
      go false u rest t =
          let r = rest t in
          record {
            from = let f = r.from in omega arith;
            within = let f = r.within in omega arith;
            none = λ p g h. step p g h (ℕ_discrete p a);
            rest = r.rest ∙ ap (members low high (j + 1)) (omega arith);
          }
        where
          step : (p : ℕ) → a ≤ p → p < j → Dec (p ≡ a) → in_set low high p ≡ false
          step p g h (yes e) = ap (in_set low high) e ∙ u
          step p g h (no e) = (rest t).none p (omega arith) h

  members_over : (a k : ℕ) → members low high a k ≡ [] → (q : ℕ) → a ≤ q → q < a + k → in_set low high q ≡ false
  unfolding members
  members_over a zero e q g h = absurd (omega arith)
  members_over a (suc k) e q g h = go (in_set low high a) refl (λ t u. members_over (a + 1) k t q u (omega arith)) e
    where
      go : (b : Bool) → in_set low high a ≡ b → (members low high (a + 1) k ≡ [] → a + 1 ≤ q → in_set low high q ≡ false)
          → pick b (a ∷ members low high (a + 1) k) (members low high (a + 1) k) ≡ [] → in_set low high q ≡ false
      go true u rest t = absurd (cc)
      go false u rest t = step (ℕ_discrete q a)
        where
          step : Dec (q ≡ a) → in_set low high q ≡ false
          step (yes z) = ap (in_set low high) z ∙ u
          step (no z) = rest t (omega arith)

pub of_round : (w : Walk) (j : ℕ) (l : List ℕ) → coming w ≡ j ∷ l → j < max_held
of_round w j l e = let r = (members_next w.rest.low w.rest.high 0 w.n j l e).within in let f = w.few in omega arith

-- ---- whether a test passes at one of the places
abbrev pub or_test : (ℕ → Bool) → Bool → ℕ → Bool
or_test h b j = h j || b

abbrev pub any_below : (ℕ → Bool) → ℕ → Bool
any_below h n = any h (below n)

pub any_skips : (n : ℕ) (f h : ℕ → Bool) (set : Places) → Covers n f set.low set.high → ((q : ℕ) → T (h q) → T (f q)) → Skips (or_test h) (any_below h) n set.low set.high
any_skips n f h set cover part =
    record {
      step = λ a l. any_suc h a;
      skip = λ a l e. any_suc h a ∙ ap (λ (b : Bool). b || any h (below a)) (not_covered n h set.low set.high a (λ i d t. cover i d (part i t)) l e);
    }

module _ (h : ℕ → Bool) where
  -- nothing is found when a loop over places that cover the test begins,
  pub any_begun : (n : ℕ) (f : ℕ → Bool) (set : Places) (w it : Walk) (b : Bool) → it ≡ w → (w.rest ≡ set) × (w.n ≡ n) → Covers n f set.low set.high
      → ((q : ℕ) → T (h q) → T (f q)) → b ≡ false → run (or_test h) b (coming it) ≡ any h (below n)
  unfolding any below
  any_begun n f set w it b e at cover part z = run_begun (or_test h) (any_below h) n set w it b e at (any_skips n f h set cover part) z

  -- a place more is asked,
  pub any_on : {l l' : List ℕ} {j : ℕ} (b b' t : Bool) → l ≡ j ∷ l' → run (or_test h) b l ≡ t → b' ≡ (h j || b) → run (or_test h) b' l' ≡ t
  any_on b b' t e i s = run_on (or_test h) (any_below h) e i s

  -- and all have been
  pub any_over : {l : List ℕ} (b t : Bool) → l ≡ [] → run (or_test h) b l ≡ t → b ≡ t
  any_over b t e i = run_over (or_test h) (any_below h) e i

-- ---- the places to come are those of the set from place a on
pub record Gone (n low high : ℕ) (l : List ℕ) (a : ℕ) : Type 0 where
  pub within : a ≤ n
  pub rest : l ≡ members low high a (n - a)

module _ (n low high a : ℕ) (l : List ℕ) (gone : Gone n low high l a) where
  pub gone_on : (j : ℕ) (l' : List ℕ) → l ≡ j ∷ l' → Passed n low high a j × (j < n) × Gone n low high l' (j + 1)
  gone_on j l' e =
      let w = gone.within in
      let x = members_next low high a (n - a) j l' (sym gone.rest ∙ e) in
      let f = x.from in
      let g = x.within in
      ((f, (omega arith, x.none)), omega arith, record { within = omega arith; rest = x.rest ∙ ap (members low high (j + 1)) (omega arith) })

  pub gone_over : l ≡ [] → Passed n low high a n
  gone_over e =
      let w = gone.within in
      let x = members_over low high a (n - a) (sym gone.rest ∙ e) in
      (w, (omega arith, λ q g h. x q g (omega arith)))
