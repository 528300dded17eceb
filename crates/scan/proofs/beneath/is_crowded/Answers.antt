use mathlib.Core.Path.{refl, ap}
use mathlib.Core.Bool.{Bool, ◌||◌}
use Rattle.places.proofs.Going.{of_round, any_begun, any_on, any_over}
use Rattle.roundbytes.specs.Layout.{round_in}
use Rattle.notes.specs.Inside.Layout.{word_notes, byte_notes}
use Rattle.scan.specs.Inside.Arrays.{is_crowding}
use Rattle.scan.proofs.beneath.is_crowded.Goals as goal

pub loop-j-init : goal.loop-j-init
loop-j-init c =
    let a = c.args in
    let test = is_crowding (round_in a.s.now) (word_notes a.notes.now.words) (byte_notes a.notes.now.octets) a.set.low a.set.high a.name a.ballot in
    any_begun test a.n test a.walk _ _ _ c.into_iter-j-iterator.ensures.into_iter_gives c.below-j-items.ensures c.requires.1.covers (λ q t. t) refl

pub is_crowding-found-requires : goal.is_crowding-found-requires
is_crowding-found-requires c = (c.requires.0, of_round c.loop-j.j-iterator _ _ c.in-Some.ensures.steps)

pub loop-j-preserved : goal.loop-j-preserved
loop-j-preserved c = any_on _ _ _ _ c.in-Some.ensures.steps c.loop-j.invariant (ap (λ (b : Bool). b || c.loop-j.found) c.is_crowding-found.ensures)

pub returns : goal.returns
returns c = any_over _ _ _ c.in-None.ensures.steps.0 c.loop-j.invariant
