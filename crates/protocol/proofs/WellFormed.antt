-- The chain property and well-formed messages, in words: each law is an equivalence.
use mathlib.Core.Path.{◌≡◌, refl, subst}
use mathlib.Core.Logic.{◌⊎◌, inl, inr, ◌↔◌, ◌≢◌}
use mathlib.Core.Bool.{Bool, not, ◌&&◌, ◌||◌, beq}
use mathlib.Core.Option.{Option, none, some}
use Prim.Native.Nat.{ℕ, ◌<◌}
use lib.Dec.{T, eqb, eqb→eq, T_not, not_T}
use Rattle.base.specs.Tests.{◌∈◌, any, all, below}
use Rattle.base.proofs.Tests.{and_l, and_r, and_in, or_l, or_r, or_out, imp_in, imp_out, same_beq, beq_same, dec_T, eq→eqb, neqb→ne, any_in, any_out, all_in, all_out, below_in, below_out, any_not_all}
use Rattle.graph.specs.LearnerGraph.{LearnerGraph}
use Rattle.protocol.specs.Ids.{Id, same_id, same_previous}
use Rattle.protocol.specs.Message.{Message, id_of, signer, previous, references, is_proposal, is_acceptor, is1b, is2a, tran, ballot}
use Rattle.protocol.specs.Learners.{lrns}
use Rattle.protocol.specs.WellFormed.{is_previous, linked, chained, alone, formed1b, same_learners, is_repeat_of, repeats, formed2a, well_formed}
use Rattle.protocol.proofs.Ids.{same_id_law, same_previous_law}

-- ---- definition 18: u is the previous message of m
abbrev pub Previous : Message → Id → Message → Type 0
Previous m i u = (u ∈ references m) × T (is_acceptor u) × (id_of u ≡ i) × (signer u ≡ signer m)

pub chained_law : (m : Message) → T (chained m) ↔ ((i : Id) → previous m ≡ some i → (u : Message) × Previous m i u)
unfolding chained linked is_previous
chained_law m = (λ h i e. out i (subst (λ (o : Option Id). T (linked m o)) e h), λ f. into (previous m) f)
  where
    out : (i : Id) → T (any (is_previous m i) (references m)) → (u : Message) × Previous m i u
    out i h = let (u, k, c) = any_out (is_previous m i) (references m) h in
        (u, (k, search (and_l, and_r), (same_id_law (id_of u) i).0 (search (and_l, and_r)), eqb→eq _ _ (search (and_l, and_r))))

    into : (o : Option Id) → ((i : Id) → o ≡ some i → (u : Message) × Previous m i u) → T (linked m o)
    into none f = tt
    into (some i) f =
        let (u, (k, a, d, s)) = f i refl in
        let d' : T (same_id (id_of u) i) = (same_id_law (id_of u) i).1 d in
        let s' : T (eqb (signer u) (signer m)) = eq→eqb s in
        any_in (is_previous m i) k (search and_in)

-- ---- definition 20, of a 1b: every other message of its Tran with its ballot is a proposal
abbrev pub Alone : Message → Type 0
Alone m = (x : Message) → x ∈ tran m → id_of x ≢ id_of m → ballot x ≡ ballot m → T (is_proposal x)

alone_law : (m x : Message) → T (alone m x) ↔ (id_of x ≢ id_of m → ballot x ≡ ballot m → T (is_proposal x))
unfolding alone
alone_law m x = (
  λ h ne e. to ne e (or_out (same_id (id_of x) (id_of m) || not (eqb (ballot x) (ballot m))) (is_proposal x) h),
  λ f. from f (dec_T (same_id (id_of x) (id_of m))) (dec_T (eqb (ballot x) (ballot m))),
)
  where
    first : id_of x ≢ id_of m → ballot x ≡ ballot m → T (same_id (id_of x) (id_of m)) ⊎ T (not (eqb (ballot x) (ballot m))) → ⊥
    first ne e (inl t) = ne ((same_id_law (id_of x) (id_of m)).0 t)
    first ne e (inr t) = neqb→ne _ _ t e

    to : id_of x ≢ id_of m → ballot x ≡ ballot m → T (same_id (id_of x) (id_of m) || not (eqb (ballot x) (ballot m))) ⊎ T (is_proposal x) → T (is_proposal x)
    to ne e (inl t) = absurd (first ne e (or_out (same_id (id_of x) (id_of m)) (not (eqb (ballot x) (ballot m))) t))
    to ne e (inr t) = t

    from : (id_of x ≢ id_of m → ballot x ≡ ballot m → T (is_proposal x)) → T (same_id (id_of x) (id_of m)) ⊎ T (not (same_id (id_of x) (id_of m)))
        → T (eqb (ballot x) (ballot m)) ⊎ T (not (eqb (ballot x) (ballot m))) → T (same_id (id_of x) (id_of m) || not (eqb (ballot x) (ballot m)) || is_proposal x)
    from f (inl t) d = or_l (same_id (id_of x) (id_of m) || not (eqb (ballot x) (ballot m))) (is_proposal x) (or_l (same_id (id_of x) (id_of m)) (not (eqb (ballot x) (ballot m))) t)
    from f (inr t) (inr d) = or_l (same_id (id_of x) (id_of m) || not (eqb (ballot x) (ballot m))) (is_proposal x) (or_r (same_id (id_of x) (id_of m)) (not (eqb (ballot x) (ballot m))) d)
    from f (inr t) (inl d) = or_r (same_id (id_of x) (id_of m) || not (eqb (ballot x) (ballot m))) (is_proposal x)
        (f (λ e. T_not (same_id (id_of x) (id_of m)) t ((same_id_law (id_of x) (id_of m)).1 e)) (eqb→eq _ _ d))

pub formed1b_law : (m : Message) → T (formed1b m) ↔ (T (is1b m) → Alone m)
unfolding formed1b
formed1b_law m = (
  λ h one x k. (alone_law m x).0 (all_out (alone m) k (imp_out (is1b m) (all (alone m) (tran m)) h one)),
  λ f. imp_in (is1b m) (all (alone m) (tran m)) (λ one. all_in (alone m) (tran m) (λ x k. (alone_law m x).1 (f one x k))),
)

-- ---- definition 23, of a 2a: lrns is not empty, and it differs from that of a 2a of the same ballot that m names as previous
abbrev pub Again : Message → Message → Type 0
Again m u = (u ∈ references m) × (previous m ≡ some (id_of u)) × T (is2a u) × (ballot u ≡ ballot m)

module _ (G : LearnerGraph) where
  abbrev pub Differ : Message → Message → Type 0
  Differ u m = (a : ℕ) × (a < G.learners) × (lrns G u a ≢ lrns G m a)

  differ_law : (u m : Message) → T (not (same_learners G u m)) ↔ Differ u m
  unfolding same_learners
  differ_law u m = (to, from)
    where
      test : ℕ → Bool
      test a = beq (lrns G u a) (lrns G m a)

      to : T (not (all test (below G.learners))) → Differ u m
      to h =
          let (a, k, t) = any_out (λ a. not (test a)) (below G.learners) (rw (any_not_all (λ a. not (test a)) test (below G.learners) (λ a. refl)) h) in
          (a, below_out G.learners k, λ e. T_not (test a) t (same_beq (lrns G u a) (lrns G m a) e))

      from : Differ u m → T (not (all test (below G.learners)))
      from (a, l, ne) = not_T (all test (below G.learners)) (λ h. ne (beq_same (lrns G u a) (lrns G m a) (all_out test (below_in G.learners l) h)))

  repeats_law : (m : Message) → T (not (repeats G m)) ↔ ((u : Message) → Again m u → Differ u m)
  unfolding repeats is_repeat_of
  repeats_law m = (to, from)
    where
      to : T (not (any (is_repeat_of G m) (references m))) → (u : Message) → Again m u → Differ u m
      to h u (k, e, two, b) =
          let e' : T (same_previous (previous m) (some (id_of u))) = (same_previous_law (previous m) (some (id_of u))).1 e in
          let b' : T (eqb (ballot u) (ballot m)) = eq→eqb b in
          (differ_law u m).0 (not_T (same_learners G u m) (λ s. T_not (any (is_repeat_of G m) (references m)) h (any_in (is_repeat_of G m) k (search and_in))))

      from : ((u : Message) → Again m u → Differ u m) → T (not (any (is_repeat_of G m) (references m)))
      from f = not_T (any (is_repeat_of G m) (references m)) (λ h.
          let (u, k, c) = any_out (is_repeat_of G m) (references m) h in
          let d = f u (k, (same_previous_law (previous m) (some (id_of u))).0 (search (and_l, and_r)), search (and_l, and_r), eqb→eq _ _ (search (and_l, and_r))) in
          T_not (same_learners G u m) ((differ_law u m).1 d) (search (and_l, and_r)))

  pub formed2a_law : (m : Message) → T (formed2a G m) ↔ (T (is2a m) → ((a : ℕ) × (a < G.learners) × T (lrns G m a)) × ((u : Message) → Again m u → Differ u m))
  unfolding formed2a
  formed2a_law m = (to, from)
    where
      some_learner : Bool
      some_learner = any (lrns G m) (below G.learners)

      to : T (not (is2a m) || (some_learner && not (repeats G m))) → T (is2a m) → ((a : ℕ) × (a < G.learners) × T (lrns G m a)) × ((u : Message) → Again m u → Differ u m)
      to h two =
          let t : T (some_learner && not (repeats G m)) = imp_out (is2a m) (some_learner && not (repeats G m)) h two in
          let (a, k, l) = any_out (lrns G m) (below G.learners) (and_l some_learner (not (repeats G m)) t) in
          ((a, below_out G.learners k, l), (repeats_law m).0 (and_r some_learner (not (repeats G m)) t))

      from : (T (is2a m) → ((a : ℕ) × (a < G.learners) × T (lrns G m a)) × ((u : Message) → Again m u → Differ u m)) → T (not (is2a m) || (some_learner && not (repeats G m)))
      from f = imp_in (is2a m) (some_learner && not (repeats G m)) (λ two.
          let ((a, l, t), g) = f two in
          and_in some_learner (not (repeats G m)) (any_in (lrns G m) (below_in G.learners l) t) ((repeats_law m).1 g))

pub well_formed_law : (G : LearnerGraph) (m : Message) → T (well_formed G m) ↔ (T (formed1b m) × T (formed2a G m))
unfolding well_formed
well_formed_law G m = (λ h. (search (and_l, and_r), search (and_l, and_r)), λ (o, t). search and_in)
