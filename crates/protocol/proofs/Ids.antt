-- Two ids are the same if they are equal, and so are two previous ids, or none.
use mathlib.Core.Path.{◌≡◌, refl, ap, subst}
use mathlib.Core.Logic.{◌↔◌}
use mathlib.Core.Option.{Option, none, some}
use mathlib.Core.List.{[], ◌∷◌}
use lib.Dec.{T, eqb, eqb→eq, eqb_refl}
use Rattle.base.proofs.Tests.{and_l, and_r, and_in}
use Rattle.protocol.specs.Ids.{Id, same_id, same_previous}

same_eq : (x y : Id) → T (same_id x y) → x ≡ y
unfolding same_id
same_eq [] [] h = refl
same_eq [] (y ∷ ys) h = absurd h
same_eq (x ∷ xs) [] h = absurd h
same_eq (x ∷ xs) (y ∷ ys) h = λ i. eqb→eq x y (and_l (eqb x y) (same_id xs ys) h) i ∷ same_eq xs ys (and_r (eqb x y) (same_id xs ys) h) i

same_refl : (x : Id) → T (same_id x x)
unfolding same_id
same_refl [] = tt
same_refl (x ∷ xs) = and_in (eqb x x) (same_id xs xs) (eqb_refl x) (same_refl xs)

pub same_id_law : (x y : Id) → T (same_id x y) ↔ (x ≡ y)
same_id_law x y = (same_eq x y, λ e. subst (λ (z : Id). T (same_id x z)) e (same_refl x))

both_eq : (x y : Option Id) → T (same_previous x y) → x ≡ y
unfolding same_previous
both_eq none none h = refl
both_eq none (some y) h = absurd h
both_eq (some x) none h = absurd h
both_eq (some x) (some y) h = ap some (same_eq x y h)

both_refl : (x : Option Id) → T (same_previous x x)
unfolding same_previous
both_refl none = tt
both_refl (some x) = same_refl x

pub same_previous_law : (x y : Option Id) → T (same_previous x y) ↔ (x ≡ y)
same_previous_law x y = (both_eq x y, λ e. subst (λ (z : Option Id). T (same_previous x z)) e (both_refl x))
