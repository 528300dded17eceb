-- What two lists of calls accepted and wrote, in all: A and W in the one, B and X in the other.
use mathlib.Core.Logic.{◌⊎◌, inl, inr}
use mathlib.Core.List.Memᴰ
use mathlib.Core.List.{List, ◌++◌}
use Prim.Native.Nat.{ℕ}
use Rattle.base.specs.Tests.{◌∈◌}
use Rattle.protocol.specs.Ids.{Id}
use Rattle.protocol.specs.Theorems.{Within}
use Rattle.round.specs.Demands.{NoCollision}

-- messages told apart by their ids, in part of a list
restricted : {H : List ℕ → Id} {L M : List (List ℕ)} → Within L M → NoCollision H M → NoCollision H L
restricted inM free m n i j e = free m n (inM m i) (inM n j) e

joined : {L K M : List (List ℕ)} → Within L M → Within K M → Within (L ++ K) M
joined {L} {K} {M} f g m i = step (Memᴰ.append_cases L i)
  where
    step : (m ∈ L) ⊎ (m ∈ K) → m ∈ M
    step (inl j) = f m j
    step (inr j) = g m j

module _ (A B W X : List (List ℕ)) where
  abbrev pub Both : List (List ℕ)
  Both = (A ++ B) ++ (W ++ X)

  pub first_list : Within (A ++ W) Both
  first_list = joined {L = A} {K = W} (λ m i. Memᴰ.append_left (W ++ X) (Memᴰ.append_left B i)) (λ m i. Memᴰ.append_right (A ++ B) (Memᴰ.append_left X i))

  pub second_list : Within (B ++ X) Both
  second_list = joined {L = B} {K = X} (λ m i. Memᴰ.append_left (W ++ X) (Memᴰ.append_right A i)) (λ m i. Memᴰ.append_right (A ++ B) (Memᴰ.append_right W i))

  -- each of the lists by itself
  pub first_free : {H : List ℕ → Id} → NoCollision H Both → NoCollision H (A ++ W)
  first_free free = restricted first_list free

  pub second_free : {H : List ℕ → Id} → NoCollision H Both → NoCollision H (B ++ X)
  second_free free = restricted second_list free
