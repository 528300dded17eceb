-- B(m) is the largest ballot of a proposal in Tran(m), and is 0 where there is none; what lies below a message has no larger one.
use mathlib.Core.Path.{◌≡◌, refl, ap, ◌∙◌}
use mathlib.Core.Logic.{◌⊎◌, inl, inr, ◌↔◌}
use mathlib.Core.Bool.{not}
use mathlib.Core.List.Memᴰ
use mathlib.Core.List.{List, [], ◌∷◌}
use Prim.Native.Nat.{ℕ, suc, ◌%◌, ◌^◌, ◌≤◌, ◌<◌, max, zero-le}
use native.Mathlib.Omega.{arith}
use lib.Dec.{T, leb, leb→le, nleb→lt}
use Rattle.base.specs.Tests.{◌∈◌}
use Rattle.base.proofs.Tests.{dec_T}
use Rattle.base.specs.Ballots.{value_of}
use Rattle.protocol.specs.Message.{Message, proposal, acceptor, Messages, nil, cons, is_proposal, proposed, is1b, tran, trans, largest, ballot, value}
use Rattle.protocol.specs.Learners.{height, heights}
use Rattle.protocol.proofs.Message.{1b-law, beneath, beneath_tran, reference_beneath, tran_closed}

pub largest_above : {x : Message} {l : List Message} → x ∈ l → proposed x ≤ largest l
unfolding largest
largest_above {x} (Memᴰ.head {x = y} {xs = ys} e) = omega (arith, ap proposed e)
largest_above {x} (Memᴰ.tail {x = y} {xs = ys} m) = omega (arith, largest_above m)

largest_mono : (l k : List Message) → ((x : Message) → x ∈ l → x ∈ k) → largest l ≤ largest k
unfolding largest
largest_mono [] k h = zero-le
largest_mono (x ∷ l) k h = omega (arith, largest_above (h x (Memᴰ.head refl)), largest_mono l k (λ y m. h y (Memᴰ.tail m)))

proposed_pos : (x : Message) → 0 < proposed x → T (is_proposal x)
unfolding proposed is_proposal
proposed_pos (proposal i s b) h = tt
proposed_pos (acceptor i s p r) h = omega arith

-- the largest is reached by a proposal, or is 0
abbrev Reached : List Message → ℕ → Type 0
Reached l x = (y : Message) × (y ∈ l) × T (is_proposal y) × (proposed y ≡ x)

largest_reached : (l : List Message) → (largest l ≡ 0) ⊎ Reached l (largest l)
unfolding largest
largest_reached [] = inl refl
largest_reached (x ∷ l) = step (largest_reached l) (dec_T (leb (proposed x) (largest l)))
  where
    step : (largest l ≡ 0) ⊎ Reached l (largest l) → T (leb (proposed x) (largest l)) ⊎ T (not (leb (proposed x) (largest l)))
        → (max (proposed x) (largest l) ≡ 0) ⊎ Reached (x ∷ l) (max (proposed x) (largest l))
    step (inl e) (inl k) = inl (omega (arith, leb→le))
    step (inr (y, m, t, e)) (inl k) = inr (y, Memᴰ.tail m, t, omega (arith, leb→le))
    step r (inr k) = inr (x, Memᴰ.head refl, proposed_pos x (omega (arith, nleb→lt)), omega (arith, nleb→lt))

-- ---- definitions 8 and 9, for a message with a proposal in its Tran: its ballot is x if a proposal there has x, and none a larger one
abbrev pub Proposes : Message → ℕ → Type 0
Proposes m x = (y : Message) × (y ∈ tran m) × T (is_proposal y) × (proposed y ≡ x)

pub ballot_above : (m y : Message) → y ∈ tran m → proposed y ≤ ballot m
unfolding ballot
ballot_above m y h = largest_above h

pub ballot_reached : (m y : Message) → y ∈ tran m → T (is_proposal y) → Proposes m (ballot m)
unfolding ballot
ballot_reached m y h t = step (largest_reached (tran m))
  where
    step : (largest (tran m) ≡ 0) ⊎ Reached (tran m) (largest (tran m)) → Proposes m (largest (tran m))
    step (inl e) = (y, h, t, omega (arith, largest_above h))
    step (inr r) = r

pub ballot_law : (m y : Message) → y ∈ tran m → T (is_proposal y)
    → (x : ℕ) → (ballot m ≡ x) ↔ (Proposes m x × ((z : Message) → z ∈ tran m → T (is_proposal z) → proposed z ≤ x))
ballot_law m y h t x = (to, from)
  where
    to : ballot m ≡ x → Proposes m x × ((z : Message) → z ∈ tran m → T (is_proposal z) → proposed z ≤ x)
    to e = let (z, k, p, d) = ballot_reached m y h t in ((z, k, p, d ∙ e), λ w l _. omega (arith, ballot_above m w l))

    from : Proposes m x × ((z : Message) → z ∈ tran m → T (is_proposal z) → proposed z ≤ x) → ballot m ≡ x
    from ((z, k, p, e), f) = let (w, l, q, d) = ballot_reached m y h t in omega (arith, ballot_above m z k, f w l q)

pub ballot_none : (m : Message) → ((y : Message) → y ∈ tran m → T (is_proposal y) → ⊥) → ballot m ≡ 0
unfolding ballot
ballot_none m f = step (largest_reached (tran m))
  where
    step : (largest (tran m) ≡ 0) ⊎ Reached (tran m) (largest (tran m)) → largest (tran m) ≡ 0
    step (inl e) = e
    step (inr (y, h, t, e)) = absurd (f y h t)

-- a 1b has a proposal in its Tran, and a proposal's ballot is its own
pub proposal_in_1b : (m : Message) → T (is1b m) → (y : Message) × (y ∈ tran m) × T (is_proposal y)
proposal_in_1b m h = let (k, (y, i, t)) = (1b-law m).0 h in (y, beneath_tran m (reference_beneath m i), t)

pub ballot_proposal : (y : Message) → T (is_proposal y) → ballot y ≡ proposed y
unfolding ballot tran largest proposed is_proposal
ballot_proposal (proposal i s b) t = omega arith
ballot_proposal (acceptor i s p r) t = absurd t

-- ---- definition 10
pub value_law : (m : Message) → value m ≡ ballot m % 2 ^ 32
unfolding value value_of
value_law m = refl

-- ---- what is in Tran of a message has no larger ballot
pub ballot_mono : (m x : Message) → x ∈ tran m → ballot x ≤ ballot m
unfolding ballot
ballot_mono m x h = largest_mono (tran x) (tran m) (λ y k. tran_closed m x y h k)

-- ---- what lies below a message is lower
mutual
  unfolding tran height

  height_tran : (m : Message) (x : Message) → x ∈ tran m → height x ≤ height m
  height_tran (proposal i s b) x h = step (Memᴰ.cases_cons h)
    where
      step : (x ≡ proposal i s b) ⊎ (x ∈ []) → height x ≤ 0
      step (inl e) = omega (arith, ap height e)
      step (inr q) = elim q [ ]
  height_tran (acceptor i s p r) x h = step (λ (q : x ∈ trans r). height_trans r x q) (Memᴰ.cases_cons h)
    where
      step : (x ∈ trans r → height x ≤ heights r) → (x ≡ acceptor i s p r) ⊎ (x ∈ trans r) → height x ≤ suc (heights r)
      step f (inl e) = omega (arith, ap height e)
      step f (inr q) = omega (arith, f q)

  height_trans : (r : Messages) (x : Message) → x ∈ trans r → height x ≤ heights r
  height_trans nil x h = elim h [ ]
  height_trans (cons m r) x h = step (λ (q : x ∈ tran m). height_tran m x q) (λ (q : x ∈ trans r). height_trans r x q) (Memᴰ.append_cases (tran m) h)
    where
      step : (x ∈ tran m → height x ≤ height m) → (x ∈ trans r → height x ≤ heights r) → (x ∈ tran m) ⊎ (x ∈ trans r) → height x ≤ max (height m) (heights r)
      step f g (inl q) = omega (arith, f q)
      step f g (inr q) = omega (arith, g q)

pub height_beneath : (m : Message) {x : Message} → x ∈ beneath m → height x < height m
unfolding beneath height
height_beneath (proposal i s b) h = elim h [ ]
height_beneath (acceptor i s p r) {x} h = omega (arith, height_trans r x h)
