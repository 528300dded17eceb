-- How often an acceptor votes: along a line of well-formed messages lrns of one ballot only grows, so each ballot has at most one 1b and at most as many
-- 2as as there are learners.
use mathlib.Core.Path.{◌≡◌, refl, sym, ap, ◌∙◌}
use mathlib.Core.Logic.{◌⊎◌, inl, inr, ◌≢◌}
use mathlib.Core.Bool.{Bool, not, ◌&&◌}
use mathlib.Core.Option.{some}
use mathlib.Core.List.Memᴰ
use mathlib.Core.List.{List, [], ◌∷◌}
use Prim.Native.Nat.{ℕ, suc, ◌+◌, ◌≤◌, ◌<◌, zero-le}
use native.Mathlib.Omega.{arith}
use lib.Dec.{T, eqb, eqb→eq, T_not, not_T}
use Rattle.base.specs.Tests.{◌∈◌, filter}
use Rattle.base.proofs.Tests.{and_l, and_r, and_in, dec_T, same_test, eq→eqb, neqb→ne, below_in}
use Rattle.graph.specs.LearnerGraph.{LearnerGraph}
use Rattle.protocol.specs.Message.{Message, proposal, acceptor, id_of, previous, references, is_proposal, is_acceptor, is1b, is2a, tran, ballot}
use Rattle.protocol.specs.Learners.{height, lrns}
use Rattle.protocol.specs.WellFormed.{formed1b, formed2a, well_formed}
use Rattle.protocol.specs.Theorems.{Chained}
use Rattle.protocol.specs.Votes.{LearnersGrow, learners_of, MoreLearners, LineFrom, Line, count1b, count2a, FewVotes}
use Rattle.protocol.proofs.Message.{1b-law, 2a-law, tran_closed, beneath_tran, reference_beneath}
use Rattle.protocol.proofs.Ballot.{ballot_mono, height_beneath}
use Rattle.protocol.proofs.Learners.{lrns_law}
use Rattle.protocol.proofs.WellFormed.{formed1b_law, formed2a_law, well_formed_law}
use Rattle.protocol.proofs.Chain.{parent}
use Rattle.protocol.proofs.Counting.{count_yes, count_no, count_more, count_some, count_below}

-- ---- the backers of u back m
pub learners_grow : LearnersGrow
learners_grow G u m h two e a k =
    let (_, (q, i, f)) = (lrns_law G u a).0 k in
    (lrns_law G m a).1 (two, (q, i, λ p l x. let (y, j, one, y-fresh, d, s) = f p l x in (y, tran_closed m u y h j, one, y-fresh, d ∙ e, s)))

reference_tran : (m : Message) {u : Message} → u ∈ references m → u ∈ tran m
reference_tran m h = beneath_tran m (reference_beneath m h)

-- ---- a learner that tells lrns(m) from lrns(u) is one more
pub more_learners : MoreLearners
more_learners G u m refers names before two e formed =
    let (_, differ) = (formed2a_law G m).0 formed two in
    let (a, l, ne) = differ u (refers, names, before, e) in
    step a l ne (dec_T (lrns G u a)) (dec_T (lrns G m a))
  where
    grow : (a : ℕ) → T (lrns G u a) → T (lrns G m a)
    grow a = learners_grow G u m (reference_tran m refers) two e a

    step : (a : ℕ) → a < G.learners → lrns G u a ≢ lrns G m a → T (lrns G u a) ⊎ T (not (lrns G u a)) → T (lrns G m a) ⊎ T (not (lrns G m a)) → learners_of G u < learners_of G m
    step a l ne (inl t) k = absurd (ne (same_test (lrns G u a) (lrns G m a) (grow a) (λ _. t)))
    step a l ne (inr n) (inl t) = count_more (lrns G u) (lrns G m) (below_in G.learners l) (λ c _. grow c) n t
    step a l ne (inr n) (inr k) = absurd (ne (same_test (lrns G u a) (lrns G m a) (grow a) (λ t. absurd (T_not (lrns G m a) k t))))

-- ---- m is next after u: it names u as its previous message and refers to it, and u is an acceptor message with another id
record Next (u m : Message) : Type 0 where
  names : previous m ≡ some (id_of u)
  refers : u ∈ references m
  votes : T (is_acceptor u)
  other : id_of u ≢ id_of m

-- what is named next in a chained set
next : {M : List Message} → Chained M → (u m : Message) → u ∈ M → m ∈ M → previous m ≡ some (id_of u) → Next u m
next {M} chains u m iu im e =
    let (k, a, _, _) = parent M chains m u im iu e in
    record { names = e; refers = k; votes = a; other = λ d. absurd (omega (arith, height_beneath m (reference_beneath m k), ap height (chains.apart u m iu im d))) }

next_tran : {u m : Message} → Next u m → u ∈ tran m
next_tran {u} {m} n = reference_tran m n.refers

refers_accepts : (m : Message) {u : Message} → u ∈ references m → T (is_acceptor m)
unfolding references is_proposal
refers_accepts (proposal i s b) h = elim h [ ]
refers_accepts (acceptor i s p r) h = tt

-- in the same ballot it is a 2a, since a well-formed 1b comes first
then_2a : (u m : Message) → Next u m → T (formed1b m) → ballot u ≡ ballot m → T (is2a m)
then_2a u m n formed e = (2a-law m).1 (
  refers_accepts m n.refers,
  λ one. T_not (is_proposal u) n.votes ((formed1b_law m).0 formed one u (next_tran n) n.other e),
)

-- and has more learners; a 1b has none
then_more : (G : LearnerGraph) (u m : Message) → Next u m → T (is2a m) → T (formed2a G m) → ballot u ≡ ballot m → learners_of G u < learners_of G m
then_more G u m n two formed e = step (dec_T (is2a u))
  where
    step : T (is2a u) ⊎ T (not (is2a u)) → learners_of G u < learners_of G m
    step (inl before) = more_learners G u m n.refers n.names before two e formed
    step (inr k) =
        let (a, l, t) = ((formed2a_law G m).0 formed two).0 in
        let never : (c : ℕ) → T (lrns G u c) → ⊥ = λ c h. T_not (is2a u) k ((lrns_law G u c).0 h).0 in
        count_more (lrns G u) (lrns G m) (below_in G.learners l) (λ c _ h. absurd (never c h)) (not_T (lrns G u a) (never a)) t

-- ---- the messages of ballot x, with one more in front
module _ (x : ℕ) (m : Message) (l : List Message) where
  abbrev one : Message → Bool
  one y = is1b y && eqb (ballot y) x

  abbrev two : Message → Bool
  two y = is2a y && eqb (ballot y) x

  -- a proposal, or a message of another ballot, does not count
  adds_none : (T (is_acceptor m) → ballot m ≡ x → ⊥) → (count1b x (m ∷ l) ≡ count1b x l) × (count2a x (m ∷ l) ≡ count2a x l)
  adds_none f = (
    count_no one m l (not_T (one m) (λ h. f ((1b-law m).0 (and_l (is1b m) (eqb (ballot m) x) h)).0 (eqb→eq (ballot m) x (and_r (is1b m) (eqb (ballot m) x) h)))),
    count_no two m l (not_T (two m) (λ h. f ((2a-law m).0 (and_l (is2a m) (eqb (ballot m) x) h)).0 (eqb→eq (ballot m) x (and_r (is2a m) (eqb (ballot m) x) h)))),
  )

  adds_1b : T (is1b m) → ballot m ≡ x → (count1b x (m ∷ l) ≡ suc (count1b x l)) × (count2a x (m ∷ l) ≡ count2a x l)
  adds_1b h e = (
    count_yes one m l (and_in (is1b m) (eqb (ballot m) x) h (eq→eqb e)),
    count_no two m l (not_T (two m) (λ k. ((2a-law m).0 (and_l (is2a m) (eqb (ballot m) x) k)).1 h)),
  )

  adds_2a : T (is2a m) → ballot m ≡ x → (count1b x (m ∷ l) ≡ count1b x l) × (count2a x (m ∷ l) ≡ suc (count2a x l))
  adds_2a h e = (
    count_no one m l (not_T (one m) (λ k. ((2a-law m).0 h).1 (and_l (is1b m) (eqb (ballot m) x) k))),
    count_yes two m l (and_in (is2a m) (eqb (ballot m) x) h (eq→eqb e)),
  )

module _ (G : LearnerGraph) (M : List Message) (chains : Chained M) (x : ℕ) where
  -- the messages of the line are of the set, and well-formed
  abbrev Formed : List Message → Type 0
  Formed l = (m : Message) → m ∈ l → (m ∈ M) × T (well_formed G m)

  -- after a message of a higher ballot there are none
  past : (u : Message) (l : List Message) → u ∈ M → LineFrom u l → Formed l → x < ballot u → (count1b x l ≡ 0) × (count2a x l ≡ 0)
  unfolding filter
  past u [] iu line formed lt = (refl, refl)
  past u (m ∷ l) iu (names, line) formed lt =
      let im = (formed m (Memᴰ.head refl)).0 in
      let up : x < ballot m = omega (arith, ballot_mono m u (next_tran (next chains u m iu im names))) in
      let (a, b) = adds_none x m l (λ _ e. omega arith) in
      let (c, d) = past m l im line (λ y k. formed y (Memᴰ.tail k)) up in
      (a ∙ c, b ∙ d)

  -- after a message of ballot x there is no 1b, and for each 2a one more learner
  after : (u : Message) (l : List Message) → u ∈ M → LineFrom u l → Formed l → ballot u ≡ x → (count1b x l ≡ 0) × (count2a x l + learners_of G u ≤ G.learners)
  unfolding filter
  after u [] iu line formed e = (refl, omega (arith, count_below (lrns G u) G.learners))
  after u (m ∷ l) iu (names, line) formed e =
      let (im, f) = formed m (Memᴰ.head refl) in
      step im f (next chains u m iu im names) (after m l im line (λ y k. formed y (Memᴰ.tail k))) (dec_T (eqb (ballot m) x))
    where
      step : m ∈ M → T (well_formed G m) → Next u m → (ballot m ≡ x → (count1b x l ≡ 0) × (count2a x l + learners_of G m ≤ G.learners))
          → T (eqb (ballot m) x) ⊎ T (not (eqb (ballot m) x)) → (count1b x (m ∷ l) ≡ 0) × (count2a x (m ∷ l) + learners_of G u ≤ G.learners)
      step im f n rest (inl t) =
          let d : ballot m ≡ x = eqb→eq (ballot m) x t in
          let (f₁, f₂) = (well_formed_law G m).0 f in
          let is : T (is2a m) = then_2a u m n f₁ (e ∙ sym d) in
          let (a, b) = adds_2a x m l is d in
          let (c, h) = rest d in
          (a ∙ c, omega (arith, then_more G u m n is f₂ (e ∙ sym d)))
      step im f n rest (inr k) =
          let up : x < ballot m = omega (arith, neqb→ne (ballot m) x k, ballot_mono m u (next_tran n)) in
          let (a, b) = adds_none x m l (λ _ d. omega arith) in
          let (c, d) = past m l im line (λ y k. formed y (Memᴰ.tail k)) up in
          (a ∙ c, omega (arith, count_below (lrns G u) G.learners))

  -- what stands behind the first message is a line, too
  line_rest : (m : Message) (l : List Message) → LineFrom m l → Line l
  line_rest m [] line = line
  line_rest m (y ∷ l) (names, line) = line

  few : (l : List Message) → Line l → Formed l → (count1b x l ≤ 1) × (count2a x l ≤ G.learners)
  unfolding filter
  few [] line formed = (zero-le, zero-le)
  few (m ∷ l) line formed =
      let (im, f) = formed m (Memᴰ.head refl) in
      let rest : Formed l = λ y k. formed y (Memᴰ.tail k) in
      step f (few l (line_rest m l line) rest) (after m l im line rest) (dec_T (eqb (ballot m) x)) (dec_T (is1b m)) (dec_T (is2a m))
    where
      step : T (well_formed G m) → (count1b x l ≤ 1) × (count2a x l ≤ G.learners) → (ballot m ≡ x → (count1b x l ≡ 0) × (count2a x l + learners_of G m ≤ G.learners))
          → T (eqb (ballot m) x) ⊎ T (not (eqb (ballot m) x)) → T (is1b m) ⊎ T (not (is1b m)) → T (is2a m) ⊎ T (not (is2a m))
          → (count1b x (m ∷ l) ≤ 1) × (count2a x (m ∷ l) ≤ G.learners)
      step f (c, d) behind (inl t) (inl is) k =
          let (a, b) = adds_1b x m l is (eqb→eq (ballot m) x t) in
          let (no_more, _) = behind (eqb→eq (ballot m) x t) in
          (omega arith, omega arith)
      step f (c, d) behind (inl t) (inr n) (inl is) =
          let (a, b) = adds_2a x m l is (eqb→eq (ballot m) x t) in
          let (_, bound) = behind (eqb→eq (ballot m) x t) in
          let (i, j, learns) = ((formed2a_law G m).0 ((well_formed_law G m).0 f).1 is).0 in
          (omega arith, omega (arith, count_some (lrns G m) (below_in G.learners j) learns))
      step f (c, d) behind (inl t) (inr n) (inr k) =
          let (a, b) = adds_none x m l (λ acc _. T_not (is2a m) k ((2a-law m).1 (acc, T_not (is1b m) n))) in
          (omega arith, omega arith)
      step f (c, d) behind (inr n) h k = let (a, b) = adds_none x m l (λ _. neqb→ne (ballot m) x n) in (omega arith, omega arith)

pub few_votes : FewVotes
few_votes G M chains l within line formed x = few G M chains x l line (λ m k. (within m k, formed m k))
