use mathlib.Core.Path.{ap₂, ◌∙◌}
use mathlib.Core.Bool.{Bool, ◌&&◌, ◌||◌}
use Prim.Native.Nat.{ℕ}
use lib.Dec.{eqb}
use Rattle.base.specs.Sets.{has}
use Rattle.base.proofs.Tests.{and_l}
use Rattle.places.proofs.Membership.{has_zero}
use Rattle.places.proofs.Going.{of_round, any_begun, any_on, any_over}
use Rattle.round.specs.Holdings.{signer_at}
use Rattle.roundbytes.specs.Layout.{round_in}
use Rattle.notes.specs.Inside.Layout.{word_notes}
use Rattle.scan.specs.Inside.Arrays.{is_caught}
use Rattle.scan.proofs.forks.caught_in.Goals as goal

pub loop-j-init : goal.loop-j-init
loop-j-init c =
    let a = c.args in
    let test = is_caught (word_notes a.notes.now.words) a.set.low a.set.high in
    let signer = signer_at (round_in a.s.now) in
    λ p h. any_begun (λ j. test j && eqb (signer j) p) a.n test a.walk _ _ _ c.into_iter-j-iterator.ensures.into_iter_gives c.below-j-items.ensures c.requires.1.covers
    (λ i t. and_l (test i) (eqb (signer i) p) t) (has_zero p)

pub is_caught-on-requires : goal.is_caught-on-requires
is_caught-on-requires c = of_round c.loop-j.j-iterator _ _ c.in-Some.ensures.steps

pub signer_at-requires : goal.signer_at-requires
signer_at-requires c = (c.requires.0, of_round c.loop-j.j-iterator _ _ c.in-Some.ensures.steps)

pub loop-j-preserved : goal.loop-j-preserved
loop-j-preserved c =
    let a = c.args in
    let test = is_caught (word_notes a.notes.now.words) a.set.low a.set.high in
    let signer = signer_at (round_in a.s.now) in
    let l = c.loop-j in
    λ p h. any_on (λ i. test i && eqb (signer i) p) _ _ _ c.in-Some.ensures.steps (l.invariant p h)
    (c.with_acceptor-mask.ensures p h ∙ ap₂ (λ (b : Bool) (k : ℕ). (b && eqb k p) || has l.mask p) c.is_caught-on.ensures c.signer_at.ensures)

pub returns : goal.returns
returns c = λ p h. any_over _ _ _ c.in-None.ensures.steps.0 (c.loop-j.invariant p h)
