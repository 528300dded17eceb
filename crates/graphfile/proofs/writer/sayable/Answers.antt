use mathlib.Core.Path.{◌≡◌, refl, sym, ◌∙◌}
use mathlib.Core.Bool.{Bool, true, false, ◌&&◌}
use lib.Dec.{leb}
use borrow.Author.Tests.{le-leb, lt-leb, leb-true}
use Rattle.base.specs.Tests.{all}
use Rattle.graph.specs.Limits.{max_learners}
use Rattle.graph.specs.declared.Graph.{Graph}
use Rattle.graphfile.specs.Writer.{few_masks, fits_mask, sayable}
use native.Mathlib.Omega.{arith}
use Rattle.graphfile.proofs.writer.sayable.Goals as goal
use Rattle.graphfile.proofs.writer.sayable.Goals.{then-from-le-MAX_LEARNERS, else-from-le-MAX_LEARNERS}

-- the answer, by the three tests
by_tests : (g : Graph) (l c m : Bool) → leb g.learners max_learners ≡ l → all few_masks g.counts ≡ c → all fits_mask g.masks ≡ m → (l && c && m) ≡ sayable g
unfolding sayable
by_tests g l c m el ec em = λ i. sym el i && sym ec i && sym em i

pub returns-then-counts_fit : goal.returns-then-counts_fit
returns-then-counts_fit c =
    let g = c.args.graph.now in
    elim c.if-from-le-MAX_LEARNERS.branch [
      | then-from-le-MAX_LEARNERS w ↦
          let e = c.from.ensures in
          let h = w.if-from-le-MAX_LEARNERS.true in
          by_tests g true true c.masks_fit.result (le-leb g.learners max_learners (omega arith)) (sym w.counts_fit.ensures ∙ sym w.value-is ∙ c.if-counts_fit.true) (sym c.masks_fit.ensures)
      | else-from-le-MAX_LEARNERS w ↦
          let h = leb-true c.from.result max_learners (sym w.value-is ∙ c.if-counts_fit.true) in
          let t = w.if-from-le-MAX_LEARNERS.false in
          absurd (omega arith)
    ]

pub returns-else-counts_fit : goal.returns-else-counts_fit
returns-else-counts_fit c =
    let g = c.args.graph.now in
    let f = c.if-counts_fit.false in
    elim c.if-from-le-MAX_LEARNERS.branch [
      | then-from-le-MAX_LEARNERS w ↦
          let e = c.from.ensures in
          let h = w.if-from-le-MAX_LEARNERS.true in
          f ∙ by_tests g true false _ (le-leb g.learners max_learners (omega arith)) (sym w.counts_fit.ensures ∙ sym w.value-is ∙ f) refl
      | else-from-le-MAX_LEARNERS w ↦
          let e = c.from.ensures in
          let h = w.if-from-le-MAX_LEARNERS.false in
          f ∙ by_tests g false _ _ (lt-leb g.learners max_learners (omega arith)) refl refl
    ]
