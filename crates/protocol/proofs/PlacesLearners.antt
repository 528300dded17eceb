-- The definitions at a place, as equations over the records and over what is worked out for earlier places: Con, Buried, fresh, lrns,
-- well-formed 2as, decisions and the report.
use mathlib.Core.Path.{◌≡◌, refl, sym, ap, subst, ◌∙◌}
use mathlib.Core.Logic.{◌↔◌}
use mathlib.Core.Bool.{Bool, not, ◌&&◌, ◌||◌, and_assoc, beq}
use mathlib.Core.Option.{some}
use mathlib.Core.List.{List, map}
use Prim.Native.Nat.{ℕ, ◌≤◌}
use lib.Dec.{T, eqb, ltb, eqb_refl, not_T}
use Rattle.base.specs.Tests.{◌∈◌, any, all, filter, below}
use Rattle.base.proofs.Tests.{and_l, and_cong, or_r, any_filter, all_filter, any_map}
use Rattle.graph.specs.LearnerGraph.{LearnerGraph, is_quorum, safe_without}
use Rattle.protocol.specs.Ids.{same_previous}
use Rattle.protocol.specs.Message.{Message, signer, is1b, is2a, signers, tran, ballot, value}
use Rattle.protocol.specs.Learners.{con, buried_by, con2as_by, fresh_by, backers_by, lrns, buried, fresh, backers}
use Rattle.protocol.specs.WellFormed.{same_learners, is_repeat_of, repeats, formed2a}
use Rattle.protocol.specs.Report.{votes, decides, Verdict}
use Rattle.protocol.specs.Table.{Table, at, held_id, held_signer, held_previous, places, Ordered, tree, messages, reach}
use Rattle.protocol.specs.Equations.{Says}
use Rattle.protocol.specs.Inside.Places.{is1b_at, is2a_at, ballot_at, value_at, caught_at, con_at, buried_at, fresh_at, lrns_at, repeats_at, formed2a_at, decides_at, report_at}
use Rattle.protocol.proofs.Message.{2a-law}
use Rattle.protocol.proofs.Knot.{lrns_is}
use Rattle.protocol.proofs.Report.{says_cong, Deciding, report_law}
use Rattle.protocol.proofs.Table.{tree_id, tree_signer, tree_previous}
use Rattle.protocol.proofs.Tables.{messages_in, messages_out}
use Rattle.protocol.proofs.Places.{any_references}
use Rattle.protocol.proofs.Loops.{any_beneath, all_beneath}

module _ (t : Table) (G : LearnerGraph) (i : ℕ) where
  pub con_at_lem : (a b : ℕ) → con_at t G a i b ≡ safe_without G a b (caught_at t i)
  unfolding con
  con_at_lem a b = refl

  pub formed2a_at_lem : formed2a_at t G i ≡ (not (is2a_at t i) || (any (lrns_at t G i) (below G.learners) && not (repeats_at t G i)))
  unfolding formed2a
  formed2a_at_lem = refl

  -- i refers to a 2a of its ballot and with its learners, of the id that it names as previous
  pub repeats_at_lem : Ordered t
      → repeats_at t G i ≡ any (λ j. same_previous (held_previous (at t i)) (some (held_id (at t j))) && is2a_at t j && eqb (ballot_at t j) (ballot_at t i)
      && all (λ a. beq (lrns_at t G j a) (lrns_at t G i a)) (below G.learners)) (places (at t i))
  unfolding repeats is_repeat_of same_learners
  repeats_at_lem ord =
      any_references t ord i (is_repeat_of G (tree t i))
      ∙ (λ e. any (λ j. same_previous (tree_previous t i e) (some (tree_id t j e)) && is2a_at t j && eqb (ballot_at t j) (ballot_at t i)
      && all (λ a. beq (lrns_at t G j a) (lrns_at t G i a)) (below G.learners)) (places (at t i)))

module _ (t : Table) (G : LearnerGraph) (ord : Ordered t) (i n : ℕ) (l : i ≤ n) where
  -- ---- Buried, at a 1b
  pub buried_at_lem : T (is1b_at t i) → (b j : ℕ)
      → buried_at t G b j i ≡ any (λ k. reach t i k && (is2a_at t k && lrns_at t G k b && (ltb (ballot_at t j) (ballot_at t k) && not (eqb (value_at t k) (value_at t j))))) (below n)
  unfolding buried_by
  buried_at_lem one b j =
      any_beneath t ord i buries (not_T (buries (tree t i)) (λ h. ((2a-law (tree t i)).0 (search and_l)).1 one)) n l
      ∙ (λ e. any (λ k. reach t i k && and_assoc (is2a_at t k && lrns_at t G k b) (ltb (ballot_at t j) (ballot_at t k)) (not (eqb (value_at t k) (value_at t j))) e) (below n))
    where
      buries : Message → Bool
      buries z = is2a z && lrns G z b && ltb (ballot_at t j) (ballot z) && not (eqb (value z) (value_at t j))

  -- ---- fresh, at a 1b: every 2a that i reaches, of its signer, with a learner that is connected and for which it is not buried, has the
  -- value of i
  pub fresh_at_lem : T (is1b_at t i) → (a : ℕ)
      → fresh_at t G a i ≡ all (λ j. not (reach t i j) || (not (is2a_at t j && eqb (held_signer (at t j)) (held_signer (at t i))
      && any (λ b. lrns_at t G j b && con_at t G a i b && not (buried_at t G b j i)) (below G.learners)) || eqb (value_at t j) (value_at t i))) (below n)
  unfolding fresh_by con2as_by
  fresh_at_lem one a =
      all_filter (λ m. eqb (value m) (value_at t i)) counts (tran (tree t i))
      ∙ all_beneath t ord i (λ m. not (counts m) || eqb (value m) (value_at t i)) (or_r (not (counts (tree t i))) (eqb (value_at t i) (value_at t i)) (eqb_refl (value_at t i))) n l
      ∙ (λ e. all (λ j. not (reach t i j) || (not (is2a_at t j && eqb (tree_signer t j e) (tree_signer t i e)
      && any (λ b. lrns_at t G j b && con_at t G a i b && not (buried_at t G b j i)) (below G.learners)) || eqb (value_at t j) (value_at t i))) (below n))
    where
      counts : Message → Bool
      counts m = is2a m && eqb (signer m) (signer (tree t i)) && any (λ b. lrns G m b && con_at t G a i b && not (buried G b m (tree t i))) (below G.learners)

  -- ---- lrns: the signers of the 1bs that i reaches, fresh for a and of the ballot of i, are a quorum of a
  backers_at : T (is2a_at t i) → (a p : ℕ)
      → backers G a (tree t i) p ≡ any (λ j. reach t i j && (is1b_at t j && fresh_at t G a j && eqb (ballot_at t j) (ballot_at t i) && eqb (held_signer (at t j)) p)) (below n)
  unfolding backers_by signers
  backers_at two a p =
      any_filter (λ y. eqb (signer y) p) backs (tran (tree t i))
      ∙ any_beneath t ord i (λ y. backs y && eqb (signer y) p) (not_T (backs (tree t i) && eqb (signer (tree t i)) p) (λ h. ((2a-law (tree t i)).0 two).1 (search and_l))) n l
      ∙ (λ e. any (λ j. reach t i j && (is1b_at t j && fresh_at t G a j && eqb (ballot_at t j) (ballot_at t i) && eqb (tree_signer t j e) p)) (below n))
    where
      backs : Message → Bool
      backs y = is1b y && fresh G a y && eqb (ballot y) (ballot_at t i)

  pub lrns_at_lem : (a : ℕ)
      → lrns_at t G i a ≡ (is2a_at t i && is_quorum G a (λ p. any (λ j. reach t i j && (is1b_at t j && fresh_at t G a j && eqb (ballot_at t j) (ballot_at t i) && eqb (held_signer (at t j)) p)) (below n)))
  lrns_at_lem a = lrns_is G (tree t i) a ∙ and_cong (is2a_at t i) _ _ (λ two. λ e. is_quorum G a (λ p. backers_at two a p e))

-- ---- decisions, over the known places ks
module _ (t : Table) (G : LearnerGraph) (ks : List ℕ) (a : ℕ) where
  pub decides_at_lem : (x : ℕ) → decides_at t G ks a x ≡ is_quorum G a (λ p. any (λ j. is2a_at t j && eqb (ballot_at t j) x && lrns_at t G j a && eqb (held_signer (at t j)) p) ks)
  unfolding decides votes signers messages
  decides_at_lem x = λ e. is_quorum G a (λ p. voters p e)
    where
      voters : (p : ℕ) → any (λ m. eqb (signer m) p) (filter (votes G a x) (map (tree t) ks)) ≡ any (λ j. is2a_at t j && eqb (ballot_at t j) x && lrns_at t G j a && eqb (held_signer (at t j)) p) ks
      voters p =
          any_filter (λ m. eqb (signer m) p) (votes G a x) (map (tree t) ks)
          ∙ any_map (λ m. votes G a x m && eqb (signer m) p) (tree t) ks
          ∙ (λ e. any (λ j. is2a_at t j && eqb (ballot_at t j) x && lrns_at t G j a && eqb (tree_signer t j e) p) ks)

  -- x decides, and a known place holds a 2a of it
  abbrev pub DecidingAt : ℕ → Type 0
  DecidingAt x = T (decides_at t G ks a x) × ((j : ℕ) × (j ∈ ks) × T (is2a_at t j) × (ballot_at t j ≡ x))

  deciding_at : (x : ℕ) → Deciding G (messages t ks) a x ↔ DecidingAt x
  deciding_at x = (to, λ (d, (j, k, two, e)). (d, (tree t j, messages_in t ks j k, two, e)))
    where
      to : Deciding G (messages t ks) a x → DecidingAt x
      to (d, (m, k, two, e)) =
          let (j, h, q) = messages_out t ks m k in
          (d, (j, h, subst (λ (y : Message). T (is2a y)) q two, ap ballot (sym q) ∙ e))

  pub report_at_lem : (v : Verdict) → (report_at t G ks a ≡ v) ↔ Says DecidingAt v
  report_at_lem v = (
    λ e. says_cong (Deciding G (messages t ks) a) DecidingAt deciding_at v ((report_law G (messages t ks) a v).0 e),
    λ h. (report_law G (messages t ks) a v).1 (says_cong DecidingAt (Deciding G (messages t ks) a) (λ x. ((deciding_at x).1, (deciding_at x).0)) v h),
  )
