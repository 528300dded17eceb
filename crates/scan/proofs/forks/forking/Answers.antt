use mathlib.Core.Path.{ap, ◌∙◌}
use mathlib.Core.Bool.{Bool, ◌&&◌, ◌||◌}
use lib.Dec.{eqb}
use Rattle.base.proofs.Tests.{and_l}
use Rattle.places.specs.Inside.PlaceSets.{in_set}
use Rattle.places.proofs.Membership.{in_zero}
use Rattle.places.proofs.Going.{of_round, any_begun, any_on, any_over}
use Rattle.roundbytes.specs.Layout.{round_in}
use Rattle.notes.specs.Inside.Layout.{byte_notes}
use Rattle.scan.specs.Inside.Arrays.{is_fork}
use Rattle.scan.proofs.forks.forking.Goals as goal

pub loop-j-init : goal.loop-j-init
loop-j-init c =
    let a = c.args in
    let test = is_fork (round_in a.s.now) (byte_notes a.notes.now.octets) a.signer a.name a.link in
    λ q h. any_begun (λ j. test j && eqb j q) a.n test a.walk _ _ _ c.into_iter-j-iterator.ensures.into_iter_gives c.below-j-items.ensures c.requires.1.covers
    (λ i t. and_l (test i) (eqb i q) t) (in_zero q)

pub is_fork-on-requires : goal.is_fork-on-requires
is_fork-on-requires c = (c.requires.0, of_round c.loop-j.j-iterator _ _ c.in-Some.ensures.steps)

pub with-found-requires : goal.with-found-requires
with-found-requires c = of_round c.loop-j.j-iterator _ _ c.in-Some.ensures.steps

pub loop-j-preserved : goal.loop-j-preserved
loop-j-preserved c =
    let a = c.args in
    let test = is_fork (round_in a.s.now) (byte_notes a.notes.now.octets) a.signer a.name a.link in
    let l = c.loop-j in
    let j = c.in-Some.j in
    λ q h. any_on (λ i. test i && eqb i q) _ _ _ c.in-Some.ensures.steps (l.invariant q h)
    (c.with-found.ensures q h ∙ ap (λ (b : Bool). (b && eqb j q) || in_set l.found.low l.found.high q) c.is_fork-on.ensures)

pub returns : goal.returns
returns c = λ q h. any_over _ _ _ c.in-None.ensures.steps.0 (c.loop-j.invariant q h)
