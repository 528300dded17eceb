-- PrevTran of the November text: what is in it, as a chain that can be followed down.
use mathlib.Core.Path.{◌≡◌, refl, sym, subst}
use mathlib.Core.Logic.{◌⊎◌, inl, inr}
use mathlib.Core.Bool.{Bool, true, false}
use mathlib.Core.Option.{Option, some}
use mathlib.Core.List.Memᴰ
use mathlib.Core.List.{List, [], ◌++◌}
use lib.Dec.{T}
use Rattle.base.specs.Tests.{◌∈◌, pick}
use Rattle.protocol.specs.Ids.{Id, same_previous}
use Rattle.protocol.specs.Message.{Message, proposal, acceptor, Messages, nil, cons, listed, id_of, previous, references, tran}
use Rattle.protocol.specs.November.{prev_tran, prev_trans}
use Rattle.protocol.proofs.Ids.{same_previous_law}
use Rattle.protocol.proofs.Message.{tran_self, tran_closed, beneath_tran, reference_beneath}

-- ---- y is on the chain of x: it is x, or on the chain of the reference that x names as its previous message
pub data On (y : Message) : Message → Type 0 where
  here : {x : Message} → y ≡ x → On y x
  down : {x : Message} (u : Message) → u ∈ references x → previous x ≡ some (id_of u) → On y u → On y x

pub on_tran : {y x : Message} → On y x → y ∈ tran x
on_tran (here {x = x} e) = Memᴰ.cast e (tran_self x)
on_tran {y} (down {x = x} u k e q) = tran_closed x u y (beneath_tran x (reference_beneath x k)) (on_tran q)

-- a message on a chain stands at its top, or below one that names it
pub above : {v m : Message} → On v m → (v ≡ m) ⊎ ((c : Message) × On c m × (previous c ≡ some (id_of v)))
above (here e) = inl e
above {v} {m} (down u k e q) = inr (step (above q))
  where
    step : (v ≡ u) ⊎ ((c : Message) × On c u × (previous c ≡ some (id_of v))) → (c : Message) × On c m × (previous c ≡ some (id_of v))
    step (inl d) = (m, here refl, subst (λ (w : Message). previous m ≡ some (id_of w)) (sym d) e)
    step (inr (c, r, f)) = (c, down u k e r, f)

-- ---- a message is in its own PrevTran
prev_tran_self : (x : Message) → x ∈ prev_tran x
unfolding prev_tran
prev_tran_self (proposal i s b) = Memᴰ.head refl
prev_tran_self (acceptor i s p r) = Memᴰ.head refl

-- ---- PrevTran is the chain: what is in PrevTran is on the chain
picked_in : {A : Type 0} (b : Bool) {y : A} {l : List A} → T b → y ∈ l → y ∈ pick b l []
picked_in true t h = h
picked_in false t h = absurd t

picked_out : {A : Type 0} (b : Bool) {y : A} (l : List A) → y ∈ pick b l [] → T b × (y ∈ l)
picked_out true l h = (tt, h)
picked_out false l h = elim h [ ]

-- a reference with the id p, and y on its chain
abbrev Next : Option Id → Messages → Message → Type 0
Next p r y = (u : Message) × (u ∈ listed r) × (p ≡ some (id_of u)) × On y u

mutual
  unfolding prev_tran references previous listed

  pub prev_tran_out : (x : Message) (y : Message) → y ∈ prev_tran x → On y x
  prev_tran_out (proposal i s b) y h = step (Memᴰ.cases_cons h)
    where
      step : (y ≡ proposal i s b) ⊎ (y ∈ []) → On y (proposal i s b)
      step (inl e) = here e
      step (inr q) = elim q [ ]
  prev_tran_out (acceptor i s p r) y h = step (λ (q : y ∈ prev_trans p r). prev_trans_out p r y q) (Memᴰ.cases_cons h)
    where
      step : (y ∈ prev_trans p r → Next p r y) → (y ≡ acceptor i s p r) ⊎ (y ∈ prev_trans p r) → On y (acceptor i s p r)
      step f (inl e) = here e
      step f (inr q) = let (u, k, e, o) = f q in down u k e o

  prev_trans_out : (p : Option Id) (r : Messages) (y : Message) → y ∈ prev_trans p r → Next p r y
  prev_trans_out p nil y h = elim h [ ]
  prev_trans_out p (cons m r) y h =
      step (λ (q : y ∈ prev_tran m). prev_tran_out m y q) (λ (q : y ∈ prev_trans p r). prev_trans_out p r y q)
      (Memᴰ.append_cases (pick (same_previous p (some (id_of m))) (prev_tran m) []) h)
    where
      step : (y ∈ prev_tran m → On y m) → (y ∈ prev_trans p r → Next p r y)
          → (y ∈ pick (same_previous p (some (id_of m))) (prev_tran m) []) ⊎ (y ∈ prev_trans p r) → Next p (cons m r) y
      step f g (inl q) =
          let (t, o) = picked_out (same_previous p (some (id_of m))) (prev_tran m) q in
          (m, Memᴰ.head refl, (same_previous_law p (some (id_of m))).0 t, f o)
      step f g (inr q) = let (u, k, e, o) = g q in (u, Memᴰ.tail k, e, o)

-- ---- and what is on the chain is in PrevTran
prev_trans_in : (p : Option Id) (r : Messages) {u y : Message} → u ∈ listed r → p ≡ some (id_of u) → y ∈ prev_tran u → y ∈ prev_trans p r
unfolding prev_tran listed
prev_trans_in p nil k e h = elim k [ ]
prev_trans_in p (cons m r) {u} {y} k e h = step (λ (q : u ∈ listed r). prev_trans_in p r q e h) (Memᴰ.cases_cons k)
  where
    step : (u ∈ listed r → y ∈ prev_trans p r) → (u ≡ m) ⊎ (u ∈ listed r) → y ∈ pick (same_previous p (some (id_of m))) (prev_tran m) [] ++ prev_trans p r
    step f (inl d) = Memᴰ.append_left (prev_trans p r)
        (subst (λ (z : Message). y ∈ pick (same_previous p (some (id_of z))) (prev_tran z) []) d (picked_in (same_previous p (some (id_of u))) ((same_previous_law p (some (id_of u))).1 e) h))
    step f (inr q) = Memᴰ.append_right (pick (same_previous p (some (id_of m))) (prev_tran m) []) (f q)

prev_tran_down : (x : Message) {u y : Message} → u ∈ references x → previous x ≡ some (id_of u) → y ∈ prev_tran u → y ∈ prev_tran x
unfolding prev_tran references previous
prev_tran_down (proposal i s b) k e h = elim k [ ]
prev_tran_down (acceptor i s p r) k e h = Memᴰ.tail (prev_trans_in p r k e h)

pub prev_tran_in : {y x : Message} → On y x → y ∈ prev_tran x
prev_tran_in (here {x = x} e) = Memᴰ.cast e (prev_tran_self x)
prev_tran_in (down {x = x} u k e q) = prev_tran_down x k e (prev_tran_in q)
