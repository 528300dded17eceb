-- When a ballot decides, in words; and a ballot decides exactly if some of the known messages are a decision (definition 19) of that ballot.
use mathlib.Core.Path.{◌≡◌, sym, ◌∙◌}
use mathlib.Core.Logic.{◌↔◌}
use mathlib.Core.Bool.{Bool, ◌&&◌}
use mathlib.Core.List.{List}
use Prim.Native.Nat.{ℕ, ◌<◌}
use lib.Dec.{T, eqb, eqb→eq}
use Rattle.base.specs.Tests.{◌∈◌, all, filter}
use Rattle.base.specs.Sets.{has}
use Rattle.base.proofs.Tests.{and_l, and_r, and_in, eq→eqb, all_in, all_out, filter_out}
use Rattle.graph.specs.LearnerGraph.{LearnerGraph, is_quorum}
use Rattle.graph.proofs.LearnerGraph.{quorum_law}
use Rattle.protocol.specs.Message.{Message, signer, is2a, signers, ballot}
use Rattle.protocol.specs.Learners.{lrns}
use Rattle.protocol.specs.Report.{votes, decides, decision}
use Rattle.protocol.specs.Equations.{DecidesByDecision}
use Rattle.protocol.proofs.Message.{signers_law, chosen_law}

module _ (G : LearnerGraph) where
  votes_law : (a x : ℕ) (m : Message) → T (votes G a x m) ↔ (T (is2a m) × (ballot m ≡ x) × T (lrns G m a))
  unfolding votes
  votes_law a x m = (
    λ h. (search (and_l, and_r), eqb→eq (ballot m) x (search (and_l, and_r)), search (and_l, and_r)),
    λ (two, e, l). let e' : T (eqb (ballot m) x) = eq→eqb e in search and_in,
  )

  -- p signed a known 2a with ballot x and a in lrns
  abbrev pub Voter : List Message → ℕ → ℕ → ℕ → Type 0
  Voter K a x p = (m : Message) × (m ∈ K) × T (is2a m) × (ballot m ≡ x) × T (lrns G m a) × (signer m ≡ p)

  -- every acceptor of some listed quorum of a did
  abbrev pub Decides : List Message → ℕ → ℕ → Type 0
  Decides K a x = (q : ℕ) × (q ∈ G.quorums a) × ((p : ℕ) → p < G.acceptors → T (has q p) → Voter K a x p)

  pub decides_law : (K : List Message) (a x : ℕ) → T (decides G K a x) ↔ Decides K a x
  unfolding decides
  decides_law K a x = (to, from)
    where
      out : (p : ℕ) → T (signers (filter (votes G a x) K) p) → Voter K a x p
      out p h = let (m, k, v, s) = (chosen_law (votes G a x) K p).0 h in let (two, e, l) = (votes_law a x m).0 v in (m, k, two, e, l, s)

      into : (p : ℕ) → Voter K a x p → T (signers (filter (votes G a x) K) p)
      into p (m, k, two, e, l, s) = (chosen_law (votes G a x) K p).1 (m, k, (votes_law a x m).1 (two, e, l), s)

      to : T (decides G K a x) → Decides K a x
      to h = let (q, i, f) = (quorum_law G a (signers (filter (votes G a x) K))).0 h in (q, i, λ p l t. out p (f p l t))

      from : Decides K a x → T (decides G K a x)
      from (q, i, f) = (quorum_law G a (signers (filter (votes G a x) K))).1 (q, i, λ p l t. into p (f p l t))

  -- ---- definition 19
  abbrev pub Decision : ℕ → List Message → Type 0
  Decision a S = T (is_quorum G a (signers S)) × ((x y : Message) → x ∈ S → y ∈ S → T (is2a x) × T (lrns G x a) × (ballot x ≡ ballot y))

  pub decision_law : (a : ℕ) (S : List Message) → T (decision G a S) ↔ Decision a S
  unfolding decision
  decision_law a S = (to, from)
    where
      one : Message → Message → Bool
      one x y = is2a x && lrns G x a && eqb (ballot x) (ballot y)

      out : (x y : Message) → T (is2a x && lrns G x a && eqb (ballot x) (ballot y)) → T (is2a x) × T (lrns G x a) × (ballot x ≡ ballot y)
      out x y h = (search (and_l, and_r), search (and_l, and_r), eqb→eq (ballot x) (ballot y) (search (and_l, and_r)))

      into : (x y : Message) → T (is2a x) × T (lrns G x a) × (ballot x ≡ ballot y) → T (is2a x && lrns G x a && eqb (ballot x) (ballot y))
      into x y (two, l, e) = let e' : T (eqb (ballot x) (ballot y)) = eq→eqb e in search and_in

      to : T (decision G a S) → Decision a S
      to h = (
        and_l (is_quorum G a (signers S)) (all (λ x. all (λ y. is2a x && lrns G x a && eqb (ballot x) (ballot y)) S) S) h,
        λ x y i j. out x y (all_out (λ y. is2a x && lrns G x a && eqb (ballot x) (ballot y)) j
            (all_out (λ x. all (λ y. is2a x && lrns G x a && eqb (ballot x) (ballot y)) S) i
            (and_r (is_quorum G a (signers S)) (all (λ x. all (λ y. is2a x && lrns G x a && eqb (ballot x) (ballot y)) S) S) h))),
      )

      from : Decision a S → T (decision G a S)
      from (q, f) = and_in (is_quorum G a (signers S)) (all (λ x. all (λ y. is2a x && lrns G x a && eqb (ballot x) (ballot y)) S) S) q
          (all_in _ S (λ x i. all_in _ S (λ y j. into x y (f x y i j))))

-- ---- ballot x decides in K if some messages of K, all of ballot x, are a decision
pub decides_by_decision : DecidesByDecision
unfolding decides
decides_by_decision G K a x = (λ h. (filter (votes G a x) K, inside, (decision_law G a (filter (votes G a x) K)).1 (h, pairs)), λ (S, w, d). from S w ((decision_law G a S).0 d))
  where
    vote : (m : Message) → m ∈ filter (votes G a x) K → T (is2a m) × (ballot m ≡ x) × T (lrns G m a)
    vote m i = (votes_law G a x m).0 (filter_out (votes G a x) K i).1

    inside : (m : Message) → m ∈ filter (votes G a x) K → (m ∈ K) × (ballot m ≡ x)
    inside m i = ((filter_out (votes G a x) K i).0, (vote m i).1)

    pairs : (m n : Message) → m ∈ filter (votes G a x) K → n ∈ filter (votes G a x) K → T (is2a m) × T (lrns G m a) × (ballot m ≡ ballot n)
    pairs m n i j = ((vote m i).0, (vote m i).2, (vote m i).1 ∙ sym (vote n j).1)

    from : (S : List Message) → ((m : Message) → m ∈ S → (m ∈ K) × (ballot m ≡ x)) → Decision G a S → T (decides G K a x)
    from S w (q, f) = let (r, i, g) = (quorum_law G a (signers S)).0 q in (decides_law G K a x).1 (r, i, λ p l t. voter ((signers_law S p).0 (g p l t)))
      where
        voter : {p : ℕ} → (m : Message) × (m ∈ S) × (signer m ≡ p) → Voter G K a x p
        voter (m, k, s) = let (two, l, _) = f m m k k in (m, (w m k).0, two, (w m k).1, l, s)
