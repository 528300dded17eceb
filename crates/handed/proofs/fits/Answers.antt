use Prim.Native.Nat.{ℕ, ◌<◌, ◌≤◌}
use mathlib.Core.Bool.{Bool, ◌||◌, false, true}
use mathlib.Core.Path.{◌≡◌, ap₂, sym, ◌∙◌}
use lib.Dec.{ltb, eqb}
use borrow.Author.Tests.{lt-leb, le-leb}
use native.Mathlib.Omega.{arith}
use Rattle.round.specs.Round.{Round}
use Rattle.round.specs.Limits.{no_place, max_held, own_allowed}
use Rattle.round.specs.Handed.{own_fits, place_fits, graph_fits, fits, message_fits}
use Rattle.base.specs.Tests.{all, below}
use Rattle.roundbytes.specs.Layout.{round_in}
use Rattle.handed.proofs.fits.Goals as goal

-- the first test that fails decides
module _ (r : Round) where
  -- the own number and the last place, as the code reads them
  owned : (own n : ℕ) (b t : Bool) → own ≡ r.own → n ≡ r.graph.acceptors → b ≡ own_allowed own n → b ≡ t → own_fits r ≡ t
  unfolding own_fits
  owned own n b t w h e f = ap₂ own_allowed (sym w) (sym h) ∙ sym e ∙ f

  sent : (x n : ℕ) (b t : Bool) → x ≡ r.last → n ≡ r.held → b ≡ (eqb x no_place || ltb x n) → b ≡ t → place_fits r r.last ≡ t
  sent x n b t d h e f = ap₂ (λ (x n : ℕ). eqb x no_place || ltb x n) (sym d) (sym h) ∙ sym e ∙ f

  no_graph : graph_fits r.graph ≡ false → fits r ≡ false
  unfolding fits
  no_graph g = simp g

  module _ (g : graph_fits r.graph ≡ true) where
    no_own : own_fits r ≡ false → fits r ≡ false
    unfolding fits
    no_own o = simp (g, o)

    module _ (o : own_fits r ≡ true) where
      no_count : max_held < r.held → fits r ≡ false
      unfolding fits
      no_count h = simp (g, o, lt-leb r.held max_held h)

      module _ (h : r.held ≤ max_held) where
        no_last : place_fits r r.last ≡ false → fits r ≡ false
        unfolding fits
        no_last l = simp (g, o, le-leb r.held max_held h, l)

        by_each : place_fits r r.last ≡ true → fits r ≡ all (message_fits r) (below r.held)
        unfolding fits
        by_each l = simp (g, o, le-leb r.held max_held h, l)

pub returns-then-not-graph_fits : goal.returns-then-not-graph_fits
returns-then-not-graph_fits c = sym (no_graph (round_in c.args.s.now) (sym c.graph_fits.ensures ∙ c.if-not-graph_fits.true))

pub returns-then-not-own_fits : goal.returns-then-not-own_fits
returns-then-not-own_fits c =
    let r = round_in c.args.s.now in
    sym (no_own r (sym c.graph_fits.ensures ∙ c.if-not-graph_fits.false) (owned r c.own_of.result c.acceptors_of.result c.own_fits.result false c.own_of.ensures c.acceptors_of.ensures c.own_fits.ensures.allowed c.if-not-own_fits.true))

pub returns-then-held-gt-MAX_HELD : goal.returns-then-held-gt-MAX_HELD
returns-then-held-gt-MAX_HELD c =
    let r = round_in c.args.s.now in
    let n = c.held_of-held.ensures.0 in
    sym (no_count r (sym c.graph_fits.ensures ∙ c.if-not-graph_fits.false) (owned r c.own_of.result c.acceptors_of.result c.own_fits.result true c.own_of.ensures c.acceptors_of.ensures c.own_fits.ensures.allowed c.if-not-own_fits.false) (omega (arith, c.if-held-gt-MAX_HELD.true)))

pub returns-then-not-place_fits : goal.returns-then-not-place_fits
returns-then-not-place_fits c =
    let r = round_in c.args.s.now in
    let n = c.held_of-held.ensures.0 in
    sym (no_last r (sym c.graph_fits.ensures ∙ c.if-not-graph_fits.false) (owned r c.own_of.result c.acceptors_of.result c.own_fits.result true c.own_of.ensures c.acceptors_of.ensures c.own_fits.ensures.allowed c.if-not-own_fits.false) (omega (arith, c.if-held-gt-MAX_HELD.false)) (sent r c.last_of.result c.held_of-held.result c.place_fits.result false c.last_of.ensures c.held_of-held.ensures.0 c.place_fits.ensures c.if-not-place_fits.true))

pub returns : goal.returns
returns c =
    let r = round_in c.args.s.now in
    let n = c.held_of-held.ensures.0 in
    c.messages_fit.ensures
    ∙ sym (by_each r (sym c.graph_fits.ensures ∙ c.if-not-graph_fits.false) (owned r c.own_of.result c.acceptors_of.result c.own_fits.result true c.own_of.ensures c.acceptors_of.ensures c.own_fits.ensures.allowed c.if-not-own_fits.false) (omega (arith, c.if-held-gt-MAX_HELD.false)) (sent r c.last_of.result c.held_of-held.result c.place_fits.result true c.last_of.ensures c.held_of-held.ensures.0 c.place_fits.ensures c.if-not-place_fits.false))
