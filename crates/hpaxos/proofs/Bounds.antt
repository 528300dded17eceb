-- Lists of numbers below a bound, and what keeps them below it.
use mathlib.Core.Path.{sym, subst}
use mathlib.Core.List.{List, [], ◌∷◌, ◌++◌}
use Prim.Native.Nat.{ℕ, zero, suc, ◌+◌, ◌<◌}
use lib.ListN.{length, get_or, set, take, drop, replicate}
use lib.Seq.{get_or-drop}
use Rattle.base.specs.Bytes.{put_at}
use Rattle.round.proofs.GraphFits.{zeros_at}

module _ (B : ℕ) (some : 0 < B) where
  abbrev pub Below : List ℕ → Type 0
  Below l = (i : ℕ) → get_or l i 0 < B

  pub below_append : (a b : List ℕ) → Below a → Below b → Below (a ++ b)
  below_append [] b h k i = k i
  below_append (x ∷ a) b h k zero = h zero
  below_append (x ∷ a) b h k (suc i) = below_append a b (λ j. h (suc j)) k i

  pub below_one : (x : ℕ) → x < B → Below (x ∷ [])
  below_one x h zero = h
  below_one x h (suc i) = some

  below_take : (n : ℕ) (l : List ℕ) → Below l → Below (take n l)
  below_take zero l h i = some
  below_take (suc n) [] h i = some
  below_take (suc n) (x ∷ l) h zero = h zero
  below_take (suc n) (x ∷ l) h (suc i) = below_take n l (λ j. h (suc j)) i

  pub below_put : (l v : List ℕ) (at : ℕ) → Below l → Below v → Below (put_at l at v)
  below_put l v at h k =
      below_append (take at l ++ v) (drop (at + length v) l) (below_append (take at l) v (below_take at l h) k) (λ i. rw (get_or-drop (at + length v) l i 0) (h (at + length v + i)))

  pub below_set : (l : List ℕ) (i x : ℕ) → Below l → x < B → Below (set l i x)
  below_set [] i x h k j = h j
  below_set (y ∷ l) zero x h k zero = k
  below_set (y ∷ l) zero x h k (suc j) = h (suc j)
  below_set (y ∷ l) (suc i) x h k zero = h zero
  below_set (y ∷ l) (suc i) x h k (suc j) = below_set l i x (λ m. h (suc m)) k j

  pub below_zeros : (n : ℕ) → Below (replicate n 0)
  below_zeros n i = subst (λ (x : ℕ). x < B) (sym (zeros_at n i)) some
