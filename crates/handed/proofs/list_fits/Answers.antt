use mathlib.Core.Bool.{not, Bool, ◌||◌, or-true, or-false}
use mathlib.Core.Path.{sym, ap, ◌∙◌}
use Prim.Native.Nat.{ℕ, ◌+◌}
use borrow.Author.Tests.{le-leb, lt-leb}
use lib.ListN.{get_or}
use native.Mathlib.Omega.{arith}
use Rattle.graph.specs.Limits.{max_masks}
use Rattle.round.specs.Handed.{list_fits, in_use}
use Rattle.roundbytes.specs.Layout.{round_in, list_counts_at}
use Rattle.roundbytes.proofs.Fields.{list_count_at}
use Rattle.handed.proofs.list_fits.Goals as goal

pub returns-then-s-k-le-MOST_MASKS : goal.returns-then-s-k-le-MOST_MASKS
unfolding list_fits
returns-then-s-k-le-MOST_MASKS c =
    let a = c.args in
    let g = (round_in a.s.now).graph in
    let u = not (in_use g.learners a.k) in
    let n = list_count_at a.s.now a.k c.requires.list in
    let t = c.if-s-k-le-MOST_MASKS.true in
    le-leb (get_or a.s.now (list_counts_at + a.k) 0) max_masks (omega arith)
    ∙ sym (ap (λ (t : Bool). u || t) (le-leb (get_or g.counts a.k 0) max_masks (omega arith)) ∙ or-true u)

pub returns-else-s-k-le-MOST_MASKS : goal.returns-else-s-k-le-MOST_MASKS
unfolding list_fits
returns-else-s-k-le-MOST_MASKS c =
    let a = c.args in
    let g = (round_in a.s.now).graph in
    let u = not (in_use g.learners a.k) in
    let n = list_count_at a.s.now a.k c.requires.list in
    let t = c.if-s-k-le-MOST_MASKS.false in
    let used = c.in_use.ensures ∙ ap (λ (l : ℕ). in_use l a.k) c.requires.read in
    ap not used ∙ sym (ap (λ (t : Bool). u || t) (lt-leb (get_or g.counts a.k 0) max_masks (omega arith)) ∙ or-false u)
