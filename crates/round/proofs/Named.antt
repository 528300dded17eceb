-- The place that an id names: the lowest one that holds it.
use mathlib.Core.Path.{◌≡◌, refl, sym, ap, subst, ◌∙◌}
use mathlib.Core.Logic.{◌⊎◌, inl, inr, ◌≢◌}
use mathlib.Core.Bool.{Bool, true, false, not}
use mathlib.Core.Option.{Option, none, some}
use Prim.Native.Nat.{ℕ, zero, suc, ◌<◌}
use native.Mathlib.Omega.{arith}
use lib.Dec.{T, eqb, eqb→eq, T_not}
use Rattle.base.specs.Tests.{pick}
use Rattle.base.proofs.Tests.{dec_T, neqb→ne}
use Rattle.protocol.specs.Ids.{Id, same_id}
use Rattle.protocol.proofs.Ids.{same_id_law}
use Rattle.round.specs.Round.{Round}
use Rattle.round.specs.Holdings.{id_at, lowest, place_of}

-- ---- the least number below n that passes
pub record Least (f : ℕ → Bool) (n p : ℕ) : Type 0 where
  pub inside : p < n
  pub passes : T (f p)
  pub first : (q : ℕ) → q < p → T (not (f q))

-- what `lowest` answers says it all
abbrev pub LowestSays : (ℕ → Bool) → ℕ → Option ℕ → Type 0
LowestSays f n none = (q : ℕ) → q < n → T (not (f q))
LowestSays f n (some p) = Least f n p

one_more : (f : ℕ → Bool) (n q : ℕ) → q < suc n → ((k : ℕ) → k < n → T (not (f k))) → T (not (f n)) → T (eqb q n) ⊎ T (not (eqb q n)) → T (not (f q))
one_more f n q l h e (inl t) = subst (λ (k : ℕ). T (not (f k))) (sym (eqb→eq q n t)) e
one_more f n q l h e (inr t) = h q (omega (arith, neqb→ne q n t))

lowest_none : (f : ℕ → Bool) (n : ℕ) (b : Bool) → f n ≡ b → ((q : ℕ) → q < n → T (not (f q))) → LowestSays f (suc n) (pick b (some n) none)
lowest_none f n true e h = record { inside = omega arith; passes = subst (λ (b : Bool). T b) (sym e) tt; first = h }
lowest_none f n false e h = λ q l. one_more f n q l h (subst (λ (b : Bool). T (not b)) (sym e) tt) (dec_T (eqb q n))

lowest_next : (f : ℕ → Bool) (n : ℕ) (o : Option ℕ) → LowestSays f n o → LowestSays f (suc n) (elim o [ none ↦ pick (f n) (some n) none | some p ↦ some p ])
lowest_next f n none h = lowest_none f n (f n) refl h
lowest_next f n (some p) h = record { inside = let l = h.inside in omega arith; passes = h.passes; first = h.first }

pub lowest_says : (f : ℕ → Bool) (n : ℕ) → LowestSays f n (lowest f n)
unfolding lowest
lowest_says f zero = λ q h. absurd (omega arith)
lowest_says f (suc n) = lowest_next f n (lowest f n) (lowest_says f n)

-- ---- the same of the place of an id
module _ (r : Round) where
  abbrev holds : Id → ℕ → Bool
  holds i p = same_id (id_at r p) i

  pub record NamedBy (i : Id) (p : ℕ) : Type 0 where
    pub inside : p < r.held
    pub there : id_at r p ≡ i
    pub first : (q : ℕ) → q < p → id_at r q ≢ i

  abbrev PlaceSays : Id → Option ℕ → Type 0
  PlaceSays i none = (q : ℕ) → q < r.held → id_at r q ≢ i
  PlaceSays i (some p) = NamedBy i p

  differs : (i : Id) (q : ℕ) → T (not (holds i q)) → id_at r q ≢ i
  differs i q h e = T_not (holds i q) h ((same_id_law (id_at r q) i).1 e)

  place_from : (i : Id) (o : Option ℕ) → LowestSays (holds i) r.held o → PlaceSays i o
  place_from i none h = λ q l. differs i q (h q l)
  place_from i (some p) h = record { inside = h.inside; there = (same_id_law (id_at r p) i).0 h.passes; first = λ q l. differs i q (h.first q l) }

  place_says : (i : Id) → PlaceSays i (place_of r i)
  unfolding place_of
  place_says i = place_from i (lowest (holds i) r.held) (lowest_says (holds i) r.held)

  pub place_some : (i : Id) (p : ℕ) → place_of r i ≡ some p → NamedBy i p
  place_some i p e = subst (λ (o : Option ℕ). PlaceSays i o) e (place_says i)

  pub place_none : (i : Id) → place_of r i ≡ none → (q : ℕ) → q < r.held → id_at r q ≢ i
  place_none i e = subst (λ (o : Option ℕ). PlaceSays i o) e (place_says i)

  -- an id that is held names a place
  pub record Found (i : Id) : Type 0 where
    pub place : ℕ
    pub is : place_of r i ≡ some place
    pub named : NamedBy i place

  found_in : (i : Id) (o : Option ℕ) → place_of r i ≡ o → (q : ℕ) → q < r.held → id_at r q ≡ i → Found i
  found_in i none e q l k = absurd (place_none i e q l k)
  found_in i (some p) e q l k = record { place = p; is = e; named = place_some i p e }

  pub held_found : (q : ℕ) → q < r.held → Found (id_at r q)
  held_found q l = found_in (id_at r q) (place_of r (id_at r q)) refl q l refl

  -- the place that an id names is the one that the id of this place names
  pub place_canonical : (i : Id) (p : ℕ) → place_of r i ≡ some p → place_of r (id_at r p) ≡ some p
  place_canonical i p e = ap (place_of r) (place_some i p e).there ∙ e

  -- two places that their ids name, with one id, are one
  some_one : (o : Option ℕ) (p q : ℕ) → o ≡ some p → o ≡ some q → p ≡ q
  some_one o p q e k = cc

  pub canonical_one : (p q : ℕ) → place_of r (id_at r p) ≡ some p → place_of r (id_at r q) ≡ some q → id_at r p ≡ id_at r q → p ≡ q
  canonical_one p q e k s = some_one (place_of r (id_at r p)) p q e (ap (place_of r) s ∙ k)
