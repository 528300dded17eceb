-- A record joins a table of held messages, known or not: the invariant of proofs/Kept stays.
use mathlib.Core.Path.{◌≡◌, sym, ap, subst, ◌∙◌}
use mathlib.Core.Logic.{◌⊎◌, inl, inr}
use mathlib.Core.Bool.{Bool, not}
use mathlib.Core.List.{List, [], ◌∷◌, ◌++◌}
use Prim.Native.Nat.{ℕ, ◌+◌, ◌<◌}
use native.Mathlib.Omega.{arith}
use lib.ListN.{length, length-append}
use lib.Dec.{T, eqb, ltb, eqb→eq, ltb→lt, nltb→le}
use Rattle.base.specs.Tests.{◌∈◌}
use Rattle.base.proofs.Tests.{dec_T, neqb→ne}
use Rattle.protocol.specs.Ids.{Id}
use Rattle.protocol.specs.Table.{Held, Table, at, held_id, offered, places, Ordered, node_by, tree, content_of}
use Rattle.protocol.proofs.Table.{at_past, nothing_past}
use Rattle.protocol.proofs.Growth.{at_append, at_end, content_of_append, tree_append, content_append, ordered_snoc, tree_end}
use Rattle.round.proofs.Canonical.{Canonical, canonical_stays}
use Rattle.round.proofs.Kept.{Source, IdFrom, Checks, checks_cast, Kept}

-- what holds of the places below n, and of n, holds of those up to n
each_place : (P : ℕ → Type 0) (n : ℕ) → ((p : ℕ) → p < n → P p) → P n → (p : ℕ) → p < n + 1 → P p
each_place P n f g p l = step (dec_T (eqb p n))
  where
    step : T (eqb p n) ⊎ T (not (eqb p n)) → P p
    step (inl t) = subst P (sym (eqb→eq p n t)) g
    step (inr t) = f p (omega (arith, neqb→ne p n t))

source_cast : {H : List ℕ → Id} {A W : List (List ℕ)} (t u : Table) (h g : Held) → h ≡ g → content_of u g ≡ content_of t h → Source H A W t h → Source H A W u g
source_cast {A = A} {W = W} t u h g e c s = record {
  bytes = s.bytes;
  from = subst (λ (q : Held). (s.bytes ∈ A) ⊎ ((s.bytes ∈ W) × T (not (offered q)))) e s.from;
  readable = s.readable;
  id = sym (ap held_id e) ∙ s.id;
  content = c ∙ s.content;
}

module _ {H : List ℕ → Id} {A W : List (List ℕ)} {t : Table} {k : ℕ → Bool} (kept : Kept H A W t k) (h : Held)
    (source : Source H A W t h) (earlier : (j : ℕ) → j ∈ places h → j < length t) (canonical : (j : ℕ) → j ∈ places h → Canonical t j) where
  abbrev longer : Table
  longer = t ++ h ∷ []

  ordered_longer : Ordered longer
  ordered_longer = ordered_snoc t h kept.ordered earlier

  size : length longer ≡ length t + 1
  size = length-append t (h ∷ [])

  -- the places of the longer table: those of t, the new one, and none behind it
  each : (P : ℕ → Type 0) → ((p : ℕ) → p < length t → P p) → P (length t) → (p : ℕ) → p < length longer → P p
  each P f g p l = each_place P (length t) f g p (omega (arith, size))

  canonical_longer : (i j : ℕ) → j ∈ places (at longer i) → Canonical longer j
  canonical_longer i j m = step (dec_T (ltb i (length longer)))
    where
      step : T (ltb i (length longer)) ⊎ T (not (ltb i (length longer))) → Canonical longer j
      step (inl b) = each (λ i. j ∈ places (at longer i) → Canonical longer j)
          (λ p b m. let m' : j ∈ places (at t p) = subst (λ (q : Held). j ∈ places q) (at_append t (h ∷ []) p b) m in
          canonical_stays t (h ∷ []) j (omega (arith, kept.ordered p j m')) (kept.canonical p j m'))
          (λ m. let m' : j ∈ places h = subst (λ (q : Held). j ∈ places q) (at_end t h) m in canonical_stays t (h ∷ []) j (earlier j m') (canonical j m'))
          i (ltb→lt i (length longer) b) m
      step (inr b) = absurd (nothing_past (subst (λ (q : Held). j ∈ places q) (at_past longer i (nltb→le i (length longer) b)) m))

  -- the new place is known only if its id was accepted and it has passed the checks, and awaits its return only if its id was written
  pub kept_snoc : (l : ℕ → Bool) → ((p : ℕ) → p < length t → l p ≡ k p)
      → (T (l (length t)) → IdFrom H A (held_id h)) → (T (not (l (length t))) → IdFrom H W (held_id h)) → (T (l (length t)) → Checks k h (node_by (tree t) h)) → Kept H A W longer l
  kept_snoc l e in_a inW checks = record {
    ordered = ordered_longer;
    canonical = canonical_longer;
    source = each (λ p. Source H A W longer (at longer p))
        (λ p b. source_cast t longer (at t p) (at longer p) (sym (at_append t (h ∷ []) p b)) (content_append t (h ∷ []) kept.ordered p b) (kept.source p b))
        (source_cast t longer h (at longer (length t)) (sym (at_end t h)) (ap (content_of longer) (at_end t h) ∙ content_of_append t (h ∷ []) h earlier) source);
    delivered = each (λ p. T (l p) → IdFrom H A (held_id (at longer p)))
        (λ p b x. subst (λ (q : Held). IdFrom H A (held_id q)) (sym (at_append t (h ∷ []) p b)) (kept.delivered p b (subst T (e p b) x)))
        (λ x. subst (λ (q : Held). IdFrom H A (held_id q)) (sym (at_end t h)) (in_a x));
    awaited = each (λ p. T (not (l p)) → IdFrom H W (held_id (at longer p)))
        (λ p b x. subst (λ (q : Held). IdFrom H W (held_id q)) (sym (at_append t (h ∷ []) p b)) (kept.awaited p b (subst (λ (c : Bool). T (not c)) (e p b) x)))
        (λ x. subst (λ (q : Held). IdFrom H W (held_id q)) (sym (at_end t h)) (inW x));
    checked = λ free. each (λ p. T (l p) → Checks l (at longer p) (tree longer p))
        (λ p b x. checks_cast k l (at t p) (at longer p) (tree t p) (tree longer p) (sym (at_append t (h ∷ []) p b)) (sym (tree_append t (h ∷ []) kept.ordered p b))
        (λ j m. known_still j (omega (arith, kept.ordered p j m))) (kept.checked free p b (subst T (e p b) x)))
        (λ x. checks_cast k l h (at longer (length t)) (node_by (tree t) h) (tree longer (length t)) (sym (at_end t h)) (sym (tree_end t h kept.ordered earlier)) (λ j m. known_still j (earlier j m)) (checks x));
  }
    where
      known_still : (j : ℕ) → j < length t → T (k j) → T (l j)
      known_still j b x = subst T (sym (e j b)) x
