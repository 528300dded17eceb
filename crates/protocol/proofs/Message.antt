-- Laws of messages: 1b and 2a, signers, and what Tran holds.
use mathlib.Core.Path.{◌≡◌, refl, subst}
use mathlib.Core.Logic.{◌⊎◌, inl, inr, ◌↔◌}
use mathlib.Core.Bool.{Bool, not, ◌&&◌}
use mathlib.Core.List.Memᴰ
use mathlib.Core.List.{List, [], ◌∷◌, ◌++◌}
use Prim.Native.Nat.{ℕ}
use lib.Dec.{T, eqb, eqb→eq, T_not, not_T}
use Rattle.base.specs.Tests.{◌∈◌, any, filter}
use Rattle.base.proofs.Tests.{and_l, and_r, and_in, eq→eqb, any_in, any_out, filter_in, filter_out}
use Rattle.protocol.specs.Message.{Message, proposal, acceptor, Messages, nil, cons, listed, signer, references, is_proposal, is_acceptor, is1b, is2a, signers, tran, trans}

-- ---- definitions 4 to 6
pub 1b-law : (m : Message) → T (is1b m) ↔ (T (is_acceptor m) × ((y : Message) × (y ∈ references m) × T (is_proposal y)))
unfolding is1b
1b-law m = (to, λ (h, (y, k, t)). and_in (is_acceptor m) (any is_proposal (references m)) h (any_in is_proposal k t))
  where
    to : T (is_acceptor m && any is_proposal (references m)) → T (is_acceptor m) × ((y : Message) × (y ∈ references m) × T (is_proposal y))
    to h = (and_l (is_acceptor m) (any is_proposal (references m)) h, any_out is_proposal (references m) (and_r (is_acceptor m) (any is_proposal (references m)) h))

pub 2a-law : (m : Message) → T (is2a m) ↔ (T (is_acceptor m) × (T (is1b m) → ⊥))
unfolding is1b is2a
2a-law m = (to, from)
  where
    to : T (is_acceptor m && not (any is_proposal (references m))) → T (is_acceptor m) × (T (is_acceptor m && any is_proposal (references m)) → ⊥)
    to h = (
      and_l (is_acceptor m) (not (any is_proposal (references m))) h,
      λ k. T_not (any is_proposal (references m)) (and_r (is_acceptor m) (not (any is_proposal (references m))) h) (and_r (is_acceptor m) (any is_proposal (references m)) k),
    )

    from : T (is_acceptor m) × (T (is_acceptor m && any is_proposal (references m)) → ⊥) → T (is_acceptor m && not (any is_proposal (references m)))
    from (h, f) = and_in (is_acceptor m) (not (any is_proposal (references m))) h
        (not_T (any is_proposal (references m)) (λ t. f (and_in (is_acceptor m) (any is_proposal (references m)) h t)))

pub signers_law : (l : List Message) (p : ℕ) → T (signers l p) ↔ ((m : Message) × (m ∈ l) × (signer m ≡ p))
unfolding signers
signers_law l p = (
  λ h. let (m, k, e) = any_out (λ m. eqb (signer m) p) l h in (m, k, eqb→eq (signer m) p e),
  λ (m, k, e). any_in (λ m. eqb (signer m) p) k (eq→eqb e),
)

-- the signers of the messages of l that pass f
pub chosen_law : (f : Message → _) (l : List Message) (p : ℕ) → T (signers (filter f l) p) ↔ ((m : Message) × (m ∈ l) × T (f m) × (signer m ≡ p))
chosen_law f l p = (
  λ h. let (m, k, e) = (signers_law (filter f l) p).0 h in let (i, j) = filter_out f l k in (m, i, j, e),
  λ (m, k, t, e). (signers_law (filter f l) p).1 (m, filter_in f k t, e),
)

-- the signers of those that have a partner in l: both texts catch by pairs
pub pairs_law : (R : Message → Message → Bool) (l : List Message) (p : ℕ)
    → T (signers (filter (λ x. any (R x) l) l) p) ↔ ((x y : Message) × (x ∈ l) × (y ∈ l) × T (R x y) × (signer x ≡ p))
pairs_law R l p = (
  λ h.
      let (x, i, c, e) = (chosen_law (λ x. any (R x) l) l p).0 h in
      let (y, j, d) = any_out (R x) l c in
      (x, y, i, j, d, e),
  λ (x, y, i, j, d, e). (chosen_law (λ x. any (R x) l) l p).1 (x, i, any_in (R x) j d, e),
)

-- ---- definition 7: Tran holds the message itself, and what its references lead to
pub tran_self : (m : Message) → m ∈ tran m
unfolding tran
tran_self (proposal i s b) = Memᴰ.head refl
tran_self (acceptor i s p r) = Memᴰ.head refl

-- what lies below m
unfoldable pub beneath : Message → List Message
beneath (proposal i s b) = []
beneath (acceptor i s p r) = trans r

pub tran_cases : (m : Message) {x : Message} → x ∈ tran m → (x ≡ m) ⊎ (x ∈ beneath m)
unfolding tran beneath
tran_cases (proposal i s b) h = Memᴰ.cases_cons h
tran_cases (acceptor i s p r) h = Memᴰ.cases_cons h

pub beneath_tran : (m : Message) {x : Message} → x ∈ beneath m → x ∈ tran m
unfolding tran beneath
beneath_tran (proposal i s b) h = Memᴰ.tail h
beneath_tran (acceptor i s p r) h = Memᴰ.tail h

trans_out : (r : Messages) {x : Message} → x ∈ trans r → (y : Message) × (y ∈ listed r) × (x ∈ tran y)
unfolding tran listed
trans_out nil h = absurd (elim h [ ])
trans_out (cons m r) {x} h = step (λ (q : x ∈ trans r). trans_out r q) (Memᴰ.append_cases (tran m) h)
  where
    step : (x ∈ trans r → (y : Message) × (y ∈ listed r) × (x ∈ tran y)) → (x ∈ tran m) ⊎ (x ∈ trans r) → (y : Message) × (y ∈ m ∷ listed r) × (x ∈ tran y)
    step f (inl q) = (m, Memᴰ.head refl, q)
    step f (inr q) = let (y, k, i) = f q in (y, Memᴰ.tail k, i)

trans_in : (r : Messages) {x y : Message} → y ∈ listed r → x ∈ tran y → x ∈ trans r
unfolding tran listed
trans_in nil k h = absurd (elim k [ ])
trans_in (cons m r) {x} {y} k h = step (λ (q : y ∈ listed r). trans_in r q h) (Memᴰ.cases_cons k)
  where
    step : (y ∈ listed r → x ∈ trans r) → (y ≡ m) ⊎ (y ∈ listed r) → x ∈ tran m ++ trans r
    step f (inl e) = Memᴰ.append_left (trans r) (subst (λ (z : Message). x ∈ tran z) e h)
    step f (inr q) = Memᴰ.append_right (tran m) (f q)

pub beneath_law : (m x : Message) → x ∈ beneath m ↔ ((y : Message) × (y ∈ references m) × (x ∈ tran y))
unfolding beneath references
beneath_law (proposal i s b) x = (λ h. elim h [ ], λ (y, k, h). elim k [ ])
beneath_law (acceptor i s p r) x = (λ h. trans_out r h, λ (y, k, h). trans_in r k h)

pub tran_law : (m x : Message) → x ∈ tran m ↔ ((x ≡ m) ⊎ ((y : Message) × (y ∈ references m) × (x ∈ tran y)))
tran_law m x = (λ h. to (tran_cases m h), from)
  where
    to : (x ≡ m) ⊎ (x ∈ beneath m) → (x ≡ m) ⊎ ((y : Message) × (y ∈ references m) × (x ∈ tran y))
    to (inl e) = inl e
    to (inr q) = inr ((beneath_law m x).0 q)

    from : (x ≡ m) ⊎ ((y : Message) × (y ∈ references m) × (x ∈ tran y)) → x ∈ tran m
    from (inl e) = Memᴰ.cast e (tran_self m)
    from (inr q) = beneath_tran m ((beneath_law m x).1 q)

pub reference_beneath : (m : Message) {x : Message} → x ∈ references m → x ∈ beneath m
reference_beneath m {x} k = (beneath_law m x).1 (x, k, tran_self x)

mutual
  unfolding tran

  pub tran_closed : (m : Message) (x y : Message) → x ∈ tran m → y ∈ tran x → y ∈ tran m
  tran_closed (proposal i s b) x y h k = subst (λ (z : Message). y ∈ tran z) (single h) k
    where
      single : x ∈ proposal i s b ∷ [] → x ≡ proposal i s b
      single (Memᴰ.head e) = e
      single (Memᴰ.tail m) = absurd (elim m [ ])
  tran_closed (acceptor i s p r) x y h k = step (λ (q : x ∈ trans r). trans_closed r x y q k) (Memᴰ.cases_cons h)
    where
      step : (x ∈ trans r → y ∈ trans r) → (x ≡ acceptor i s p r) ⊎ (x ∈ trans r) → y ∈ acceptor i s p r ∷ trans r
      step f (inl e) = subst (λ (z : Message). y ∈ tran z) e k
      step f (inr q) = Memᴰ.tail (f q)

  trans_closed : (r : Messages) (x y : Message) → x ∈ trans r → y ∈ tran x → y ∈ trans r
  trans_closed nil x y h k = absurd (elim h [ ])
  trans_closed (cons m r) x y h k = step (λ (q : x ∈ tran m). tran_closed m x y q k) (λ (q : x ∈ trans r). trans_closed r x y q k) (Memᴰ.append_cases (tran m) h)
    where
      step : (x ∈ tran m → y ∈ tran m) → (x ∈ trans r → y ∈ trans r) → (x ∈ tran m) ⊎ (x ∈ trans r) → y ∈ tran m ++ trans r
      step f g (inl q) = Memᴰ.append_left (trans r) (f q)
      step f g (inr q) = Memᴰ.append_right (tran m) (g q)

pub beneath_closed : (m : Message) {x y : Message} → x ∈ beneath m → y ∈ tran x → y ∈ beneath m
unfolding beneath
beneath_closed (proposal i s b) h k = elim h [ ]
beneath_closed (acceptor i s p r) {x} {y} h k = trans_closed r x y h k
