-- What a place of a chained set of places leads to is in the set.
use mathlib.Core.Path.{◌≡◌, sym}
use mathlib.Core.Logic.{◌⊎◌, inl, inr}
use mathlib.Core.List.Memᴰ
use mathlib.Core.List.{List}
use Prim.Native.Nat.{ℕ, zero, suc, ◌<◌}
use native.Mathlib.Omega.{arith}
use lib.Dec.{T}
use Rattle.base.specs.Tests.{◌∈◌}
use Rattle.protocol.specs.Table.{Table, at, places, reach}
use Rattle.protocol.specs.Theorems.{ChainedAt}
use Rattle.protocol.proofs.Table.{reach_cases}

reach_bounded : (t : Table) (ks : List ℕ) → ChainedAt t ks → (n i j : ℕ) → i < n → i ∈ ks → T (reach t i j) → j ∈ ks
reach_bounded t ks law zero i j l m h = absurd (omega arith)
reach_bounded t ks law (suc n) i j l m h = step (λ k q. reach_bounded t ks law n k j q) (reach_cases t law.ordered i j h)
  where
    step : ((k : ℕ) → k < n → k ∈ ks → T (reach t k j) → j ∈ ks) → (i ≡ j) ⊎ ((k : ℕ) × (k ∈ places (at t i)) × T (reach t k j)) → j ∈ ks
    step f (inl e) = Memᴰ.cast (sym e) m
    step f (inr (k, q, r)) = f k (omega (arith, law.ordered i k q)) (law.closed i k m q) r

pub reach_inside : (t : Table) (ks : List ℕ) → ChainedAt t ks → (i j : ℕ) → i ∈ ks → T (reach t i j) → j ∈ ks
reach_inside t ks law i j m h = reach_bounded t ks law (suc i) i j (omega arith) m h
