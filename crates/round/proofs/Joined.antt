-- Ids one behind the other: how long they are, that they ascend, and that they are found again.
use mathlib.Core.Path.{◌≡◌, refl, sym, ap, ◌∙◌}
use mathlib.Core.Bool.{Bool, true, false}
use mathlib.Core.List.Memᴰ
use mathlib.Core.List.{List, [], ◌∷◌}
use Prim.Native.Nat.{ℕ, ◌+◌, ◌*◌}
use native.Mathlib.Omega.{arith}
use lib.Dec.{T}
use lib.ListN.{length, take, drop, length-append}
use lib.Seq.{take_at, drop_at, drop-drop}
use Rattle.base.specs.Tests.{◌∈◌, pick}
use Rattle.base.specs.Bytes.{part}
use Rattle.message.specs.Layout.{id_len}
use Rattle.message.specs.Order.{before, ascending}
use Rattle.round.specs.Round.{Round}
use Rattle.round.specs.Holdings.{id_at}
use Rattle.round.specs.Rows.{ids_from}
use Rattle.round.specs.Reply.{joined}
use Rattle.round.proofs.Order.{Rising, After, ids_of}

pub is_true : (b : Bool) → T b → b ≡ true
is_true true h = refl
is_true false h = absurd h

module _ (r : Round) where
  -- each of the places holds a whole id
  abbrev pub FullIds : List ℕ → Type 0
  FullIds l = (k : ℕ) → k ∈ l → length (id_at r k) ≡ id_len

  pub joined_length : (l : List ℕ) → FullIds l → length (joined r l) ≡ id_len * length l
  unfolding joined
  joined_length [] w = omega arith
  joined_length (q ∷ l) w =
      let e = joined_length l (λ k m. w k (Memᴰ.tail m)) in
      let s = w q (Memᴰ.head refl) in
      length-append (id_at r q) (joined r l) ∙ omega arith

  -- the first id, and what is behind it
  first_id : (q : ℕ) (l : List ℕ) (s : List ℕ) (at : ℕ) → FullIds (q ∷ l) → drop at s ≡ joined r (q ∷ l) → part id_len s at ≡ id_at r q
  unfolding joined
  first_id q l s at w e = ap (take id_len) e ∙ take_at (id_at r q) (joined r l) id_len (w q (Memᴰ.head refl))

  rest_ids : (q : ℕ) (l : List ℕ) (s : List ℕ) (at : ℕ) → FullIds (q ∷ l) → drop at s ≡ joined r (q ∷ l) → drop (at + id_len) s ≡ joined r l
  unfolding joined
  rest_ids q l s at w e = sym (drop-drop id_len at s) ∙ ap (drop id_len) e ∙ drop_at (id_at r q) (joined r l) id_len (w q (Memᴰ.head refl))

  pub joined_ascends : (q : ℕ) (l : List ℕ) (s : List ℕ) (at : ℕ) → FullIds (q ∷ l) → drop at s ≡ joined r (q ∷ l) → Rising (ids_of r (q ∷ l)) → ascending (length l) s at ≡ true
  unfolding ascending Rising After
  joined_ascends q [] s at w e h = refl
  joined_ascends q (y ∷ l) s at w e h =
      let w' : FullIds (y ∷ l) = λ k m. w k (Memᴰ.tail m) in
      let d : drop (at + id_len) s ≡ joined r (y ∷ l) = rest_ids q (y ∷ l) s at w e in
      let a : part id_len s at ≡ id_at r q = first_id q (y ∷ l) s at w e in
      let b : part id_len s (at + id_len) ≡ id_at r y = first_id y l s (at + id_len) w' d in
      let t : before (part id_len s at) (part id_len s (at + id_len)) ≡ true = (λ i. before (a i) (b i)) ∙ is_true (before (id_at r q) (id_at r y)) h.0 in
      (λ i. pick (t i) (ascending (length l) s (at + id_len)) false) ∙ joined_ascends y l s (at + id_len) w' d h.1

  pub joined_found : (l : List ℕ) (s : List ℕ) (at : ℕ) → FullIds l → drop at s ≡ joined r l → ids_from (length l) s at ≡ ids_of r l
  unfolding ids_from
  joined_found [] s at w e = refl
  joined_found (q ∷ l) s at w e = λ i. first_id q l s at w e i ∷ joined_found l s (at + id_len) (λ k m. w k (Memᴰ.tail m)) (rest_ids q l s at w e) i
