-- In a chained set of messages a chain of previous messages can be followed down. Of two messages of one signer, neither on the other's chain, the
-- chains part somewhere: there stand two different messages with the same previous id, or both with none. So the acceptor messages of an honest
-- acceptor are in a line: of any two, one is in Tran of the other.
use mathlib.Core.Path.{◌≡◌, refl, sym, ap, subst, ◌∙◌}
use mathlib.Core.Logic.{◌⊎◌, inl, inr, ◌↔◌, ◌≢◌}
use mathlib.Core.Bool.{not}
use mathlib.Core.Option.{Option, none, some}
use mathlib.Core.List.{List}
use Prim.Native.Nat.{ℕ, zero, suc, ◌<◌}
use native.Mathlib.Omega.{arith}
use lib.Dec.{T, T_not, not_T}
use Rattle.base.specs.Tests.{◌∈◌, any}
use Rattle.base.proofs.Tests.{dec_T, any_in, any_out}
use Rattle.protocol.specs.Ids.{Id, same_id}
use Rattle.protocol.specs.Message.{Message, id_of, signer, previous, references, is_proposal, is_acceptor, is1b, is2a, tran, ballot, caught_in, caught}
use Rattle.protocol.specs.Learners.{height}
use Rattle.protocol.specs.Theorems.{Chained, Lawful, Honest}
use Rattle.protocol.specs.November.{prev_tran, in_prev_tran}
use Rattle.protocol.proofs.Ids.{same_id_law}
use Rattle.protocol.proofs.Message.{2a-law, beneath, beneath_tran, reference_beneath}
use Rattle.protocol.proofs.Ballot.{height_beneath}
use Rattle.protocol.proofs.Caught.{CaughtIn, caught_in_law, caught_law}
use Rattle.protocol.proofs.WellFormed.{Previous, chained_law, formed1b_law}
use Rattle.protocol.proofs.PrevTran.{On, here, down, on_tran, prev_tran_out, prev_tran_in, above}

-- Caught(m) holds nobody who is honest in M
pub not_caught : {M : List Message} → Chained M → (p : ℕ) → Honest M p → (m : Message) → m ∈ M → T (caught m p) → ⊥
not_caught {M} law p honest m h c =
    let (x, y, i, j, f, e) = (caught_law m p).0 c in
    T_not (caught_in M p) honest ((caught_in_law M p).1 (x, y, law.closed m x h i, law.closed m y h j, f, e))

-- an acceptor message of p in M
pub record Mine (M : List Message) (p : ℕ) (m : Message) : Type 0 where
  pub inside : m ∈ M
  pub accepts : T (is_acceptor m)
  pub signed : signer m ≡ p

-- ---- the chain of a message
-- where the chains of m and w part: c of the one and v of the other name the same previous message or none, and v is not on both
abbrev Parted : Message → Message → Type 0
Parted m w = (c v : Message) × On c m × On v w × (previous c ≡ previous v) × (On v m → ⊥)

module _ (M : List Message) (law : Chained M) where
  pub refers : (x u : Message) → x ∈ M → u ∈ references x → u ∈ M
  refers x u i k = law.closed x u i (beneath_tran x (reference_beneath x k))

  -- the message of M that has the id that x names is the previous message of x
  pub parent : (x u : Message) → x ∈ M → u ∈ M → previous x ≡ some (id_of u) → Previous x (id_of u) u
  parent x u i j e =
      let (v, (k, a, d, s)) = (chained_law x).0 (law.links x i) (id_of u) e in
      subst (λ (w : Message). Previous x (id_of u) w) (law.apart v u (refers x v i k) j d) (k, a, d, s)

  -- ids tell what is in PrevTran
  in_prev_tran_law : (x y : Message) → x ∈ M → y ∈ M → T (in_prev_tran x y) ↔ On x y
  unfolding in_prev_tran
  in_prev_tran_law x y i j = (to, λ q. any_in (λ z. same_id (id_of z) (id_of x)) (prev_tran_in q) ((same_id_law (id_of x) (id_of x)).1 refl))
    where
      to : T (any (λ z. same_id (id_of z) (id_of x)) (prev_tran y)) → On x y
      to h =
          let (z, k, t) = any_out (λ z. same_id (id_of z) (id_of x)) (prev_tran y) h in
          let q : On z y = prev_tran_out y z k in
          subst (λ (w : Message). On w y) (law.apart z x (law.closed y z j (on_tran q)) i ((same_id_law (id_of z) (id_of x)).0 t)) q

  pub not_on : (x y : Message) → x ∈ M → y ∈ M → T (not (in_prev_tran x y)) ↔ (On x y → ⊥)
  not_on x y i j = (
    λ t q. T_not (in_prev_tran x y) t ((in_prev_tran_law x y i j).1 q),
    λ f. not_T (in_prev_tran x y) (λ t. f ((in_prev_tran_law x y i j).0 t)),
  )

  -- ---- of two messages, neither on the other's chain, the chains part somewhere
  -- the bottom of a chain
  bottom : (h : ℕ) (m : Message) → height m < h → m ∈ M → (c : Message) × On c m × (previous c ≡ none)
  bottom zero m l i = absurd (omega arith)
  bottom (suc h) m l i = step (λ u q. bottom h u (omega (arith, height_beneath m q))) (previous m) refl
    where
      step : ((u : Message) → u ∈ beneath m → u ∈ M → (c : Message) × On c u × (previous c ≡ none)) → (o : Option Id) → previous m ≡ o
          → (c : Message) × On c m × (previous c ≡ none)
      step f none e = (m, here refl, e)
      step f (some i') e =
          let (u, (k, a, d, s)) = (chained_law m).0 (law.links m i) i' e in
          let (c, q, b) = f u (reference_beneath m k) (refers m u i k) in
          (c, down u k (e ∙ ap some (sym d)) q, b)

  -- down the chain of w to its bottom b, until what is named next is on the chain of m, or none is
  part : (m : Message) → m ∈ M → {b w : Message} → On b w → previous b ≡ none → w ∈ M → (On w m → ⊥) → (On m w → ⊥) → Parted m w
  part m i (here {x = w} e) z j f g =
      let (c, q, d) = bottom (suc (height m)) m (omega arith) i in
      (c, w, q, here refl, d ∙ sym z ∙ ap previous e, f)
  part m i (down {x = w} u k e q) z j f g =
      step (λ n. part m i q z (refers w u j k) n (λ o. g (down u k e o))) (dec_T (in_prev_tran u m))
    where
      next : (u ≡ m) ⊎ ((c : Message) × On c m × (previous c ≡ some (id_of u))) → Parted m w
      next (inl d) = absurd (g (down u k e (here (sym d))))
      next (inr (c, o, d)) = (c, w, o, here refl, d ∙ sym e, f)

      step : ((On u m → ⊥) → Parted m u) → T (in_prev_tran u m) ⊎ T (not (in_prev_tran u m)) → Parted m w
      step rest (inl t) = next (above ((in_prev_tran_law u m (refers w u j k) i).0 t))
      step rest (inr t) =
          let (c, v, o, s, d, n) = rest ((not_on u m (refers w u j k) i).0 t) in
          (c, v, o, down u k e s, d, n)

  -- a chain is of one signer
  mine_on : {p : ℕ} {y x : Message} → Mine M p x → On y x → Mine M p y
  mine_on {p} i (here e) = subst (λ (z : Message). Mine M p z) (sym e) i
  mine_on {p} {x} i (down u k e q) =
      let j : u ∈ M = refers x u i.inside k in
      let (_, a, _, s) = parent x u i.inside j e in
      mine_on (record { inside = j; accepts = a; signed = s ∙ i.signed }) q

  -- so their signer is caught
  pub forked : (p : ℕ) (m w : Message) → Mine M p m → Mine M p w → (On w m → ⊥) → (On m w → ⊥) → CaughtIn M p
  forked p m w i j f g =
      let (b, q, z) = bottom (suc (height w)) w (omega arith) j.inside in
      let (c, v, o, s, d, n) = part m i.inside q z j.inside f g in
      let i' : Mine M p c = mine_on i o in
      let j' : Mine M p v = mine_on j s in
      let differ : id_of c ≢ id_of v = λ e. n (subst (λ (y : Message). On y m) (law.apart c v i'.inside j'.inside e) o) in
      (c, v, i'.inside, j'.inside, (i'.accepts, j'.accepts, i'.signed ∙ sym j'.signed, differ, d), i'.signed)

-- ---- of two messages of an honest acceptor, one is in Tran of the other
pub line : (M : List Message) → Chained M → (p : ℕ) → Honest M p → (x y : Message) → Mine M p x → Mine M p y → (x ∈ tran y) ⊎ (y ∈ tran x)
line M law p honest x y i j = step (dec_T (in_prev_tran x y)) (dec_T (in_prev_tran y x))
  where
    step : T (in_prev_tran x y) ⊎ T (not (in_prev_tran x y)) → T (in_prev_tran y x) ⊎ T (not (in_prev_tran y x)) → (x ∈ tran y) ⊎ (y ∈ tran x)
    step (inl t) _ = inl (on_tran ((in_prev_tran_law M law x y i.inside j.inside).0 t))
    step (inr t) (inl s) = inr (on_tran ((in_prev_tran_law M law y x j.inside i.inside).0 s))
    step (inr t) (inr s) = absurd (T_not (caught_in M p) honest ((caught_in_law M p).1 (
        forked M law p x y i j ((not_on M law y x j.inside i.inside).0 s) ((not_on M law x y i.inside j.inside).0 t)
        )))

-- ---- a well-formed 1b has no 2a of its own ballot in its Tran
pub no_2a_of_its_ballot : {M : List Message} → Lawful M → (y z : Message) → y ∈ M → T (is1b y) → z ∈ tran y → T (is2a z) → ballot z ≢ ballot y
no_2a_of_its_ballot {M} law y z h one k two e = step (dec_T (same_id (id_of z) (id_of y)))
  where
    step : T (same_id (id_of z) (id_of y)) ⊎ T (not (same_id (id_of z) (id_of y))) → ⊥
    step (inl t) = ((2a-law z).0 two).1 (subst (λ (x : Message). T (is1b x)) (sym (law.chains.apart z y (law.chains.closed y z h k) h ((same_id_law (id_of z) (id_of y)).0 t))) one)
    step (inr t) = T_not (is_proposal z) ((2a-law z).0 two).0
        ((formed1b_law y).0 (law.forms y h) one z k (λ d. T_not (same_id (id_of z) (id_of y)) t ((same_id_law (id_of z) (id_of y)).1 d)) e)
