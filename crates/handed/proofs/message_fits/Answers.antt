use Prim.Native.Nat.{ℕ, ◌<◌, ◌≤◌, ◌*◌}
use lib.ListN.{get_or}
use mathlib.Core.Bool.{Bool, ◌||◌, false, true}
use mathlib.Core.Path.{◌≡◌, ap₂, sym, ◌∙◌, ap}
use lib.Dec.{eqb, ltb}
use borrow.Author.Tests.{lt-leb, le-leb, eq-eqb, ne_eqb}
use mathlib.Core.Logic.{◌≢◌}
use native.Mathlib.Omega.{arith}
use Rattle.round.specs.Round.{Round}
use Rattle.round.specs.Limits.{no_place, max_held}
use Rattle.round.specs.Handed.{place_fits, message_fits, refers_back}
use Rattle.message.specs.Layout.{proposal_kind}
use Rattle.base.specs.Tests.{all}
use Rattle.base.specs.Bytes.{part}
use Rattle.roundbytes.specs.Layout.{round_in}
use Rattle.handed.proofs.message_fits.Goals as goal

-- the tests one by one
module _ (r : Round) (p : ℕ) where
  abbrev count : ℕ
  count = get_or r.counts p 0

  -- the place of the previous message, as the code reads it
  placed : (x n : ℕ) (b t : Bool) → x ≡ get_or r.previous p 0 → n ≡ r.held → b ≡ (eqb x no_place || ltb x n) → b ≡ t → place_fits r (get_or r.previous p 0) ≡ t
  placed x n b t d h e f = ap₂ (λ (x n : ℕ). eqb x no_place || ltb x n) (sym d) (sym h) ∙ sym e ∙ f

  many : max_held < count → message_fits r p ≡ false
  unfolding message_fits
  many h = simp (lt-leb count max_held h)

  misplaced : count ≤ max_held → place_fits r (get_or r.previous p 0) ≡ false → message_fits r p ≡ false
  unfolding message_fits
  misplaced h e = simp (le-leb count max_held h, e)

  proposal : count ≤ max_held → place_fits r (get_or r.previous p 0) ≡ true → get_or r.kinds p 0 ≡ proposal_kind → message_fits r p ≡ true
  unfolding message_fits refers_back
  proposal h e k = simp (le-leb count max_held h, e, eq-eqb (get_or r.kinds p 0) proposal_kind k)

  module _ (h : count ≤ max_held) (e : place_fits r (get_or r.previous p 0) ≡ true) (k : get_or r.kinds p 0 ≢ proposal_kind) where
    bare : count < 1 → message_fits r p ≡ false
    unfolding message_fits refers_back
    bare n = simp (le-leb count max_held h, e, ne_eqb (get_or r.kinds p 0) proposal_kind k, lt-leb 1 count n)

    vote : 1 ≤ count → message_fits r p ≡ all (λ (j : ℕ). ltb j p) (part count r.references (max_held * p))
    unfolding message_fits refers_back
    vote n = simp (le-leb count max_held h, e, ne_eqb (get_or r.kinds p 0) proposal_kind k, le-leb 1 count n)

pub returns-then-count-gt-MAX_HELD : goal.returns-then-count-gt-MAX_HELD
returns-then-count-gt-MAX_HELD c =
    let a = c.args in
    let r = round_in a.s.now in
    let n : c.from-count.result ≡ get_or r.counts a.p 0 = c.from-count.ensures ∙ c.count_at.ensures in
    sym (many r a.p (omega (arith, c.if-count-gt-MAX_HELD.true)))

pub returns-then-not-place_fits : goal.returns-then-not-place_fits
returns-then-not-place_fits c =
    let a = c.args in
    let r = round_in a.s.now in
    let n : c.from-count.result ≡ get_or r.counts a.p 0 = c.from-count.ensures ∙ c.count_at.ensures in
    let here = placed r a.p c.previous_at.result c.held_of.result c.place_fits.result false c.previous_at.ensures c.held_of.ensures.0 c.place_fits.ensures c.if-not-place_fits.true in
    sym (misplaced r a.p (omega (arith, c.if-count-gt-MAX_HELD.false)) here)

pub returns-then-kind_at-eq-PROPOSAL : goal.returns-then-kind_at-eq-PROPOSAL
returns-then-kind_at-eq-PROPOSAL c =
    let a = c.args in
    let r = round_in a.s.now in
    let n : c.from-count.result ≡ get_or r.counts a.p 0 = c.from-count.ensures ∙ c.count_at.ensures in
    let here = placed r a.p c.previous_at.result c.held_of.result c.place_fits.result true c.previous_at.ensures c.held_of.ensures.0 c.place_fits.ensures c.if-not-place_fits.false in
    sym (proposal r a.p (omega (arith, c.if-count-gt-MAX_HELD.false)) here (sym c.kind_at.ensures ∙ c.if-kind_at-eq-PROPOSAL.true))

pub returns-then-count-lt1 : goal.returns-then-count-lt1
returns-then-count-lt1 c =
    let a = c.args in
    let r = round_in a.s.now in
    let n : c.from-count.result ≡ get_or r.counts a.p 0 = c.from-count.ensures ∙ c.count_at.ensures in
    let here = placed r a.p c.previous_at.result c.held_of.result c.place_fits.result true c.previous_at.ensures c.held_of.ensures.0 c.place_fits.ensures c.if-not-place_fits.false in
    sym (bare r a.p (omega (arith, c.if-count-gt-MAX_HELD.false)) here (λ k. c.if-kind_at-eq-PROPOSAL.false (c.kind_at.ensures ∙ k)) (omega (arith, c.if-count-lt1.true)))

pub returns : goal.returns
returns c =
    let a = c.args in
    let r = round_in a.s.now in
    let n : c.from-count.result ≡ get_or r.counts a.p 0 = c.from-count.ensures ∙ c.count_at.ensures in
    let here = placed r a.p c.previous_at.result c.held_of.result c.place_fits.result true c.previous_at.ensures c.held_of.ensures.0 c.place_fits.ensures c.if-not-place_fits.false in
    c.refers_back.ensures ∙ ap (λ (k : ℕ). all (λ (j : ℕ). ltb j a.p) (part k r.references (max_held * a.p))) n
    ∙ sym (vote r a.p (omega (arith, c.if-count-gt-MAX_HELD.false)) here (λ k. c.if-kind_at-eq-PROPOSAL.false (c.kind_at.ensures ∙ k)) (omega (arith, c.if-count-lt1.false)))
