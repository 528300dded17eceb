use borrow.Author.Tests.{lt-leb, le-leb}
use native.Mathlib.Omega.{arith}
use mathlib.Core.Path.{◌≡◌, ◌∙◌, sym}
use Rattle.round.specs.Handed.{graph_fits, list_fits}
use Rattle.roundbytes.specs.Layout.{round_in}
use Rattle.graph.specs.Limits.{max_acceptors, max_learners, lists}
use Rattle.base.specs.Tests.{all, below}
use Rattle.handed.proofs.graph_fits.Goals as goal

pub returns-then-acceptors-lt1 : goal.returns-then-acceptors-lt1
unfolding graph_fits
returns-then-acceptors-lt1 c =
    let g = (round_in c.args.s.now).graph in
    let x = c.acceptors_of-acceptors.ensures in
    let y = c.if-acceptors-lt1.true in
    simp (lt-leb 1 g.acceptors (omega arith))

pub returns-then-acceptors-gt-MOST_ACCEPTORS : goal.returns-then-acceptors-gt-MOST_ACCEPTORS
unfolding graph_fits
returns-then-acceptors-gt-MOST_ACCEPTORS c =
    let g = (round_in c.args.s.now).graph in
    let x = c.acceptors_of-acceptors.ensures in
    let y = c.if-acceptors-lt1.false in
    let z = c.if-acceptors-gt-MOST_ACCEPTORS.true in
    simp (le-leb 1 g.acceptors (omega arith), lt-leb g.acceptors max_acceptors (omega arith))

pub returns-then-learners-lt1 : goal.returns-then-learners-lt1
unfolding graph_fits
returns-then-learners-lt1 c =
    let g = (round_in c.args.s.now).graph in
    let x = c.acceptors_of-acceptors.ensures in
    let y = c.if-acceptors-lt1.false in
    let z = c.if-acceptors-gt-MOST_ACCEPTORS.false in
    let u = c.learners_of-learners.ensures.0 in
    let v = c.if-learners-lt1.true in
    simp (le-leb 1 g.acceptors (omega arith), le-leb g.acceptors max_acceptors (omega arith), lt-leb 1 g.learners (omega arith))

pub returns-then-learners-gt-MAX_LEARNERS : goal.returns-then-learners-gt-MAX_LEARNERS
unfolding graph_fits
returns-then-learners-gt-MAX_LEARNERS c =
    let g = (round_in c.args.s.now).graph in
    let x = c.acceptors_of-acceptors.ensures in
    let y = c.if-acceptors-lt1.false in
    let z = c.if-acceptors-gt-MOST_ACCEPTORS.false in
    let u = c.learners_of-learners.ensures.0 in
    let v = c.if-learners-lt1.false in
    let w = c.if-learners-gt-MAX_LEARNERS.true in
    simp (le-leb 1 g.acceptors (omega arith), le-leb g.acceptors max_acceptors (omega arith), le-leb 1 g.learners (omega arith), lt-leb g.learners max_learners (omega arith))

pub returns : goal.returns
unfolding graph_fits
returns c =
    let g = (round_in c.args.s.now).graph in
    let x = c.acceptors_of-acceptors.ensures in
    let y = c.if-acceptors-lt1.false in
    let z = c.if-acceptors-gt-MOST_ACCEPTORS.false in
    let u = c.learners_of-learners.ensures.0 in
    let v = c.if-learners-lt1.false in
    let w = c.if-learners-gt-MAX_LEARNERS.false in
    let e : graph_fits g ≡ all (list_fits g) (below lists) = simp (le-leb 1 g.acceptors (omega arith), le-leb g.acceptors max_acceptors (omega arith), le-leb 1 g.learners (omega arith), le-leb g.learners max_learners (omega arith)) in
    c.lists_fit.ensures ∙ sym e
