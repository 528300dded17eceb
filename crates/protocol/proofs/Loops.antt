-- A test over Tran of the message of place i, as a loop over the places below any n that is above i; and over the places below i, where the
-- message of i itself decides nothing.
use mathlib.Core.Path.{◌≡◌, refl, sym, subst}
use mathlib.Core.Logic.{◌⊎◌, inl, inr}
use mathlib.Core.Bool.{Bool, not, ◌&&◌, ◌||◌}
use Prim.Native.Nat.{ℕ, ◌≤◌, ◌<◌}
use native.Mathlib.Omega.{arith}
use lib.Dec.{T, eqb, eqb→eq, T_not}
use Rattle.base.specs.Tests.{any, all, below}
use Rattle.base.proofs.Tests.{and_in, and_l, and_r, imp_in, imp_out, dec_T, neqb→ne, same_test, any_in, any_out, all_in, all_out, below_in}
use Rattle.protocol.specs.Message.{Message, tran}
use Rattle.protocol.specs.Table.{Table, Ordered, tree, reach}
use Rattle.protocol.proofs.Table.{reach_le, tran_places}

module _ (t : Table) (ord : Ordered t) (i : ℕ) where
  -- some message of Tran passes
  pub any_tran : (f : Message → Bool) (n : ℕ) → i < n → any f (tran (tree t i)) ≡ any (λ j. reach t i j && f (tree t j)) (below n)
  any_tran f n l = same_test _ _ to from
    where
      to : T (any f (tran (tree t i))) → T (any (λ j. reach t i j && f (tree t j)) (below n))
      to h =
          let (x, m, q) = any_out f (tran (tree t i)) h in
          let (j, r, e) = (tran_places t ord i x).0 m in
          any_in (λ j. reach t i j && f (tree t j)) (below_in n (omega (arith, reach_le t ord i j r))) (and_in (reach t i j) (f (tree t j)) r (subst (λ (y : Message). T (f y)) e q))

      from : T (any (λ j. reach t i j && f (tree t j)) (below n)) → T (any f (tran (tree t i)))
      from h =
          let (j, m, q) = any_out (λ j. reach t i j && f (tree t j)) (below n) h in
          any_in f ((tran_places t ord i (tree t j)).1 (j, and_l (reach t i j) (f (tree t j)) q, refl)) (and_r (reach t i j) (f (tree t j)) q)

  -- the same below i, where the message of i does not pass
  pub any_beneath : (f : Message → Bool) → T (not (f (tree t i))) → (n : ℕ) → i ≤ n → any f (tran (tree t i)) ≡ any (λ j. reach t i j && f (tree t j)) (below n)
  any_beneath f fails n l = same_test _ _ to from
    where
      low : (j : ℕ) → T (reach t i j) → T (f (tree t j)) → T (eqb j i) ⊎ T (not (eqb j i)) → j < n
      low j r q (inl e) = absurd (T_not (f (tree t i)) fails (subst (λ (k : ℕ). T (f (tree t k))) (eqb→eq j i e) q))
      low j r q (inr e) = omega (arith, reach_le t ord i j r, neqb→ne j i e)

      to : T (any f (tran (tree t i))) → T (any (λ j. reach t i j && f (tree t j)) (below n))
      to h =
          let (x, m, q) = any_out f (tran (tree t i)) h in
          let (j, r, e) = (tran_places t ord i x).0 m in
          let q' : T (f (tree t j)) = subst (λ (y : Message). T (f y)) e q in
          any_in (λ j. reach t i j && f (tree t j)) (below_in n (low j r q' (dec_T (eqb j i)))) (and_in (reach t i j) (f (tree t j)) r q')

      from : T (any (λ j. reach t i j && f (tree t j)) (below n)) → T (any f (tran (tree t i)))
      from h =
          let (j, m, q) = any_out (λ j. reach t i j && f (tree t j)) (below n) h in
          any_in f ((tran_places t ord i (tree t j)).1 (j, and_l (reach t i j) (f (tree t j)) q, refl)) (and_r (reach t i j) (f (tree t j)) q)

  -- every message of Tran passes, where the message of i does
  pub all_beneath : (f : Message → Bool) → T (f (tree t i)) → (n : ℕ) → i ≤ n → all f (tran (tree t i)) ≡ all (λ j. not (reach t i j) || f (tree t j)) (below n)
  all_beneath f passes n l = same_test _ _ to from
    where
      at_place : T (all (λ j. not (reach t i j) || f (tree t j)) (below n)) → (j : ℕ) → T (reach t i j) → T (eqb j i) ⊎ T (not (eqb j i)) → T (f (tree t j))
      at_place h j r (inl e) = subst (λ (k : ℕ). T (f (tree t k))) (sym (eqb→eq j i e)) passes
      at_place h j r (inr e) = imp_out (reach t i j) (f (tree t j))
          (all_out (λ j. not (reach t i j) || f (tree t j)) (below_in n (omega (arith, reach_le t ord i j r, neqb→ne j i e))) h) r

      to : T (all f (tran (tree t i))) → T (all (λ j. not (reach t i j) || f (tree t j)) (below n))
      to h = all_in _ _ (λ j m. imp_in (reach t i j) (f (tree t j)) (λ r. all_out f ((tran_places t ord i (tree t j)).1 (j, r, refl)) h))

      from : T (all (λ j. not (reach t i j) || f (tree t j)) (below n)) → T (all f (tran (tree t i)))
      from h = all_in f (tran (tree t i)) (λ x m.
          let (j, r, e) = (tran_places t ord i x).0 m in
          subst (λ (y : Message). T (f y)) (sym e) (at_place h j r (dec_T (eqb j i))))
