use mathlib.Core.Path.{refl, ap}
use mathlib.Core.Bool.{Bool, ◌||◌}
use Rattle.places.proofs.Going.{of_round, any_begun, any_on, any_over}
use Rattle.roundbytes.specs.Layout.{round_in}
use Rattle.notes.specs.Inside.Layout.{word_notes, byte_notes}
use Rattle.voting.specs.Inside.Votes.{is_opposed}
use Rattle.voting.proofs.learners.is_barred.Goals as goal

pub loop-j-init : goal.loop-j-init
loop-j-init c =
    let a = c.args in
    let r = round_in a.s.now in
    let x = word_notes a.notes.now.words in
    let y = byte_notes a.notes.now.octets in
    let test = is_opposed r x y a.set.low a.set.high a.b a.signer a.v a.p in
    any_begun test a.n test a.walk _ _ _ c.into_iter-j-iterator.ensures.into_iter_gives c.below-j-items.ensures c.requires.1.1.covers (λ q t. t) refl

pub is_opposed-found-requires : goal.is_opposed-found-requires
is_opposed-found-requires c = (c.requires.0, (c.requires.1.0, of_round c.loop-j.j-iterator _ _ c.in-Some.ensures.steps))

pub loop-j-preserved : goal.loop-j-preserved
loop-j-preserved c = any_on _ _ _ _ c.in-Some.ensures.steps c.loop-j.invariant (ap (λ (b : Bool). b || c.loop-j.found) c.is_opposed-found.ensures)

pub returns : goal.returns
returns c = any_over _ _ _ c.in-None.ensures.steps.0 c.loop-j.invariant
