-- What row 17's tests of a round say, and when a round that was changed passes them too.
use mathlib.Core.Path.{◌≡◌, refl, ap, ◌∙◌}
use mathlib.Core.Logic.{◌⊎◌, inl, inr}
use mathlib.Core.Bool.{Bool, true, false, not, ◌&&◌, ◌||◌}
use mathlib.Core.Option.{none, some}
use Prim.Native.Nat.{ℕ, ◌<◌, ◌≤◌}
use native.Mathlib.Omega.{arith}
use lib.Dec.{T, eqb, ltb, leb, eqb→eq, ltb→lt, leb→le, lt→ltb, le→leb, T_not}
use lib.ListN.{get_or}
use Rattle.base.specs.Tests.{◌∈◌, pick, all, below}
use Rattle.base.proofs.Tests.{and_in, and_l, and_r, or_l, or_r, or_out, all_in, all_out, below_in, below_out, eq→eqb}
use Rattle.protocol.specs.Ids.{Id}
use Rattle.protocol.specs.Table.{offers, says}
use Rattle.round.specs.Round.{Round}
use Rattle.round.specs.Limits.{max_held, no_place}
use Rattle.round.specs.Holdings.{id_at, is_proposal_at, references_at, named, record_at}
use Rattle.round.specs.Handed.{place_fits, refers_back, message_fits, graph_fits, own_fits, fits}

-- ---- a place is none, or that of a held message
pub place_cases : (r : Round) (p : ℕ) → T (place_fits r p) → (p ≡ no_place) ⊎ (p < r.held)
place_cases r p h = step (or_out (eqb p no_place) (ltb p r.held) h)
  where
    step : T (eqb p no_place) ⊎ T (ltb p r.held) → (p ≡ no_place) ⊎ (p < r.held)
    step (inl t) = inl (eqb→eq p no_place t)
    step (inr t) = inr (ltb→lt p r.held t)

pub place_none : (r : Round) (p : ℕ) → p ≡ no_place → T (place_fits r p)
place_none r p e = or_l (eqb p no_place) (ltb p r.held) (eq→eqb e)

pub place_held : (r : Round) (p : ℕ) → p < r.held → T (place_fits r p)
place_held r p h = or_r (eqb p no_place) (ltb p r.held) (lt→ltb p r.held h)

pub place_more : (r s : Round) (p : ℕ) → r.held ≤ s.held → T (place_fits r p) → T (place_fits s p)
place_more r s p l h = step (place_cases r p h)
  where
    step : (p ≡ no_place) ⊎ (p < r.held) → T (place_fits s p)
    step (inl e) = place_none s p e
    step (inr e) = place_held s p (omega arith)

-- ---- an acceptor message has references, and each is to an earlier place
module _ (r : Round) (p : ℕ) where
  abbrev some_back : Bool
  some_back = leb 1 (get_or r.counts p 0)

  abbrev all_back : Bool
  all_back = all (λ j. ltb j p) (references_at r p)

  pub back_out : T (refers_back r p) → T (not (is_proposal_at r p)) → (1 ≤ get_or r.counts p 0) × ((j : ℕ) → j ∈ references_at r p → j < p)
  unfolding refers_back
  back_out h t = step (or_out (is_proposal_at r p) (some_back && all_back) h)
    where
      step : T (is_proposal_at r p) ⊎ T (some_back && all_back) → (1 ≤ get_or r.counts p 0) × ((j : ℕ) → j ∈ references_at r p → j < p)
      step (inl k) = absurd (T_not (is_proposal_at r p) t k)
      step (inr k) = (
        leb→le 1 (get_or r.counts p 0) (and_l some_back all_back k),
        λ j m. ltb→lt j p (all_out (λ q. ltb q p) m (and_r some_back all_back k)),
      )

  pub back_in : T (is_proposal_at r p) ⊎ ((1 ≤ get_or r.counts p 0) × ((j : ℕ) → j ∈ references_at r p → j < p)) → T (refers_back r p)
  unfolding refers_back
  back_in (inl t) = or_l (is_proposal_at r p) (some_back && all_back) t
  back_in (inr (one, earlier)) =
      or_r (is_proposal_at r p) (some_back && all_back)
      (and_in some_back all_back (le→leb 1 (get_or r.counts p 0) one) (all_in (λ j. ltb j p) (references_at r p) (λ j m. lt→ltb j p (earlier j m))))

-- ---- the whole of row 17's tests
pub record Fitting (r : Round) : Type 0 where
  pub graph : T (graph_fits r.graph)
  pub own : T (own_fits r)
  pub most : r.held ≤ max_held
  pub last : T (place_fits r r.last)
  pub counts : (p : ℕ) → p < r.held → get_or r.counts p 0 ≤ max_held
  pub previous : (p : ℕ) → p < r.held → T (place_fits r (get_or r.previous p 0))
  pub back : (p : ℕ) → p < r.held → T (refers_back r p)

module _ (r : Round) where
  pub fits_out : T (fits r) → Fitting r
  unfolding fits message_fits
  fits_out h =
      let a = graph_fits r.graph in
      let b = own_fits r in
      let c = leb r.held max_held in
      let d = place_fits r r.last in
      let e = all (message_fits r) (below r.held) in
      let each : (p : ℕ) → p < r.held → T (message_fits r p) = λ p l. all_out (message_fits r) (below_in r.held l) (and_r (a && b && c && d) e h) in
      let front : T (a && b && c && d) = and_l (a && b && c && d) e h in
      record {
        graph = and_l a b (and_l (a && b) c (and_l (a && b && c) d front));
        own = and_r a b (and_l (a && b) c (and_l (a && b && c) d front));
        most = leb→le r.held max_held (and_r (a && b) c (and_l (a && b && c) d front));
        last = and_r (a && b && c) d front;
        counts = λ p l. leb→le (get_or r.counts p 0) max_held (and_l (leb (get_or r.counts p 0) max_held) (place_fits r (get_or r.previous p 0)) (and_l (leb (get_or r.counts p 0) max_held && place_fits r (get_or r.previous p 0)) (refers_back r p) (each p l)));
        previous = λ p l. and_r (leb (get_or r.counts p 0) max_held) (place_fits r (get_or r.previous p 0)) (and_l (leb (get_or r.counts p 0) max_held && place_fits r (get_or r.previous p 0)) (refers_back r p) (each p l));
        back = λ p l. and_r (leb (get_or r.counts p 0) max_held && place_fits r (get_or r.previous p 0)) (refers_back r p) (each p l);
      }

  message_in : (p : ℕ) → get_or r.counts p 0 ≤ max_held → T (place_fits r (get_or r.previous p 0)) → T (refers_back r p) → T (message_fits r p)
  unfolding message_fits
  message_in p c v b =
      and_in (leb (get_or r.counts p 0) max_held && place_fits r (get_or r.previous p 0)) (refers_back r p)
      (and_in (leb (get_or r.counts p 0) max_held) (place_fits r (get_or r.previous p 0)) (le→leb (get_or r.counts p 0) max_held c) v) b

  pub fits_in : Fitting r → T (fits r)
  unfolding fits
  fits_in f =
      let a = graph_fits r.graph in
      let b = own_fits r in
      let c = leb r.held max_held in
      let d = place_fits r r.last in
      let e = all (message_fits r) (below r.held) in
      let each : T e = all_in (message_fits r) (below r.held) (λ p m. let l = below_out r.held m in message_in p (f.counts p l) (f.previous p l) (f.back p l)) in
      and_in (a && b && c && d) e
      (and_in (a && b && c) d (and_in (a && b) c (and_in a b f.graph f.own) (le→leb r.held max_held f.most)) f.last) each

-- ---- the held places of r are as they are in s
pub record Keeps (r s : Round) : Type 0 where
  pub ids : (p : ℕ) → p < r.held → id_at s p ≡ id_at r p
  pub kinds : (p : ℕ) → p < r.held → get_or s.kinds p 0 ≡ get_or r.kinds p 0
  pub signers : (p : ℕ) → p < r.held → get_or s.signers p 0 ≡ get_or r.signers p 0
  pub ballots : (p : ℕ) → p < r.held → get_or s.ballots p 0 ≡ get_or r.ballots p 0
  pub previous : (p : ℕ) → p < r.held → get_or s.previous p 0 ≡ get_or r.previous p 0
  pub counts : (p : ℕ) → p < r.held → get_or s.counts p 0 ≡ get_or r.counts p 0
  pub references : (p : ℕ) → p < r.held → references_at s p ≡ references_at r p

module _ (r s : Round) (keeps : Keeps r s) where
  named_by : (b : Bool) (x y : Id) → (T (not b) → x ≡ y) → pick b none (some x) ≡ pick b none (some y)
  named_by true x y h = refl
  named_by false x y h = ap some (h tt)

  named_step : (p : ℕ) → (p ≡ no_place) ⊎ (p < r.held) → named s p ≡ named r p
  named_step p (inl e) = named_by (eqb p no_place) (id_at s p) (id_at r p) (λ t. absurd (T_not (eqb p no_place) t (eq→eqb e)))
  named_step p (inr l) = ap (λ (x : Id). pick (eqb p no_place) none (some x)) (keeps.ids p l)

  -- the id of a place, or none
  pub named_kept : (p : ℕ) → T (place_fits r p) → named s p ≡ named r p
  named_kept p h = named_step p (place_cases r p h)

  pub record_kept : Fitting r → (p : ℕ) → p < r.held → record_at s p ≡ record_at r p
  record_kept f p l =
      let e : named s (get_or s.previous p 0) ≡ named r (get_or r.previous p 0) = ap (named s) (keeps.previous p l) ∙ named_kept (get_or r.previous p 0) (f.previous p l) in
      λ i. pick (eqb (keeps.kinds p l i) 1)
      (offers (keeps.ids p l i) (keeps.signers p l i) (keeps.ballots p l i))
      (says (keeps.ids p l i) (keeps.signers p l i) (e i) (keeps.references p l i))

  pub back_kept : (p : ℕ) → p < r.held → refers_back s p ≡ refers_back r p
  unfolding refers_back
  back_kept p l = λ i. eqb (keeps.kinds p l i) 1 || (leb 1 (keeps.counts p l i) && all (λ j. ltb j p) (keeps.references p l i))
