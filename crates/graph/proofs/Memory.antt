-- Laws of the graph in memory.
use mathlib.Core.Path.{◌≡◌, refl, ap, sym, ◌∙◌, subst}
use mathlib.Core.Logic.{◌⊎◌, inl, inr}
use mathlib.Core.Bool.{not, not-not, ◌||◌}
use mathlib.Core.List.Memᴰ
use mathlib.Core.List.{List, [], ◌∷◌}
use Prim.Native.Nat.{ℕ, zero, suc, ◌+◌, ◌-◌, ◌*◌, ◌/◌, ◌^◌, ◌≤◌, ◌<◌, min}
use native.Mathlib.Nat.{suc-mul, mul-add, mul-one, mul-le-mul_right}
use native.Mathlib.Decide.{dec_lt}
use native.Mathlib.Omega.{arith}
use lib.Bits.{bit_and, bit_or}
use lib.ListN.{get_or, take, length-take, get_or-eq_default}
use lib.Seq.{slice, get_or-drop, get_or-take}
use Rattle.base.specs.Tests.{◌∈◌, any, all}
use Rattle.base.specs.Sets.{has, contains, apart}
use Rattle.base.proofs.Tests.{any_cong, any_not_all}
use Rattle.base.proofs.Sets.{first_of, contains_mask, apart_mask, contains_cong, has_or}
use Rattle.graph.specs.LearnerGraph.{LearnerGraph, common}
use Rattle.graph.proofs.LearnerGraph.{apart_common}
use Rattle.graph.specs.Limits.{max_masks, mask_bits}
use Rattle.graph.specs.Memory.{triangle, list_of}
use Rattle.graph.specs.Inside.Asking.{within, Masks}

pub triangle_half : (b : ℕ) → b * (b + 1) / 2 ≡ triangle b
unfolding triangle
triangle_half zero = refl
triangle_half (suc b) =
    let r = triangle_half b in
    let e : suc b + 1 ≡ (b + 1) + 1 = omega arith in
    let f : suc b * (suc b + 1) ≡ b * (suc b + 1) + (suc b + 1) = suc-mul b (suc b + 1) in
    let g : b * (suc b + 1) ≡ b * (b + 1) + b = ap (λ (x : ℕ). b * x) e ∙ mul-add b (b + 1) 1 ∙ ap (λ (x : ℕ). b * (b + 1) + x) (mul-one b) in
    omega arith

pub half_small : (b : ℕ) → b < 8 → b * (b + 1) ≤ 56
half_small b h = let e : b * (b + 1) ≤ 7 * (b + 1) = mul-le-mul_right (b + 1) (omega arith) in omega arith

-- ---- the tests on masks

mask_of : (l : List ℕ) (q : ℕ) → Masks l → q ∈ l → q < 2 ^ mask_bits
mask_of [] q h m = elim m [ ]
mask_of (x ∷ l) q h m = step (λ (k : q ∈ l). mask_of l q (λ i. h (suc i)) k) (Memᴰ.cases_cons m)
  where
    step : (q ∈ l → q < 2 ^ mask_bits) → (q ≡ x) ⊎ (q ∈ l) → q < 2 ^ mask_bits
    step rest (inl e) = subst (λ (y : ℕ). y < 2 ^ mask_bits) (sym e) (h 0)
    step rest (inr k) = rest k

module _ (l : List ℕ) (n x : ℕ) (h : Masks l) (hx : x < 2 ^ mask_bits) where
  pub list_contained : any (within (bit_or x (2 ^ mask_bits - 1 - first_of mask_bits n))) l ≡ any (contains n (has x)) l
  list_contained = any_cong _ _ l (λ q m. contains_mask mask_bits n x q hx (mask_of l q h m))

  pub list_apart : any (within (2 ^ mask_bits - 1 - bit_and x (first_of mask_bits n))) l ≡ any (apart n (has x)) l
  list_apart = any_cong _ _ l (λ q m. apart_mask mask_bits n x q hx (mask_of l q h m))

-- the same of masks that stand among others, as those of a list do
slice_masks : (l : List ℕ) (f t : ℕ) → Masks l → Masks (slice f t l)
slice_masks l f t h i = at (dec_lt (f + i) t)
  where
    at : Dec (f + i < t) → get_or (slice f t l) i 0 < 2 ^ mask_bits
    at (yes k) = subst (λ (y : ℕ). y < 2 ^ mask_bits) (sym (get_or-drop f (take t l) i 0 ∙ get_or-take t l (f + i) 0 k)) (h (f + i))
    at (no k) =
        let e : get_or (slice f t l) i 0 ≡ 0 = get_or-drop f (take t l) i 0 ∙ get_or-eq_default (take t l) 0 {n = f + i} (let p = length-take t l in omega arith) in
        subst (λ (y : ℕ). y < 2 ^ mask_bits) (sym e) (omega arith)

pub slice_mask : (l : List ℕ) (f t q : ℕ) → Masks l → q ∈ slice f t l → q < 2 ^ mask_bits
slice_mask l f t q h m = mask_of (slice f t l) q (slice_masks l f t h) m

module _ (l : List ℕ) (f t n x : ℕ) (h : Masks l) (hx : x < 2 ^ mask_bits) where
  pub some_contained : any (within (bit_or x (2 ^ mask_bits - 1 - first_of mask_bits n))) (slice f t l) ≡ any (contains n (has x)) (slice f t l)
  some_contained = list_contained (slice f t l) n x (slice_masks l f t h) hx

  pub some_apart : any (within (2 ^ mask_bits - 1 - bit_and x (first_of mask_bits n))) (slice f t l) ≡ any (apart n (has x)) (slice f t l)
  some_apart = list_apart (slice f t l) n x (slice_masks l f t h) hx

pub list_is : (counts masks : List ℕ) (k r : ℕ) → r ≡ min (get_or counts k 0) max_masks → list_of counts masks k ≡ slice (max_masks * k) (max_masks * k + r) masks
unfolding list_of
list_is counts masks k r e = ap (λ (n : ℕ). slice (max_masks * k) (max_masks * k + n) masks) (sym e)

-- a quorum of the list that is apart from what s and q have in common: not every one has an acceptor in common with both
pub some_apart_common : (G : LearnerGraph) (s q : ℕ) (l : List ℕ) → any (apart G.acceptors (has (bit_and s q))) l ≡ not (all (λ t. common G s q t) l)
some_apart_common G s q l = any_not_all _ _ l (λ t. apart_common G s q t)

-- no quorum of the list is apart from what s and q have in common: every one has an acceptor in common with both
pub none_apart_common : (G : LearnerGraph) (s q : ℕ) (l : List ℕ) → not (any (apart G.acceptors (has (bit_and s q))) l) ≡ all (λ t. common G s q t) l
none_apart_common G s q l = ap not (some_apart_common G s q l) ∙ not-not (all (λ t. common G s q t) l)

-- a mask of the list within the union
pub some_in_union : (n s t : ℕ) (l : List ℕ) → any (contains n (has (bit_or s t))) l ≡ any (contains n (λ p. has s p || has t p)) l
some_in_union n s t l = any_cong _ _ l (λ q m. contains_cong n (has (bit_or s t)) (λ p. has s p || has t p) q (λ p h. has_or s t p))
