use mathlib.Core.Path.{ap, ◌∙◌}
use mathlib.Core.Bool.{Bool, ◌||◌}
use Rattle.base.specs.Sets.{has}
use Rattle.base.proofs.Sets.{has_or}
use Rattle.places.proofs.Membership.{has_zero}
use Rattle.places.proofs.Going.{of_round, any_begun, any_on, any_over}
use Rattle.roundbytes.specs.Layout.{round_in}
use Rattle.notes.specs.Inside.Layout.{word_notes, byte_notes}
use Rattle.voting.specs.Inside.Votes.{is_rival}
use Rattle.voting.proofs.learners.rivals.Goals as goal

pub loop-j-init : goal.loop-j-init
loop-j-init c =
    let a = c.args in
    let r = round_in a.s.now in
    let x = word_notes a.notes.now.words in
    let y = byte_notes a.notes.now.octets in
    λ b.
    let test = is_rival r x y a.set.low a.set.high a.signer a.v b in
    any_begun test a.n test a.walk _ _ _ c.into_iter-j-iterator.ensures.into_iter_gives c.below-j-items.ensures (c.requires.1.1 b) (λ q t. t) (has_zero b)

pub rivals_at-mask-requires : goal.rivals_at-mask-requires
rivals_at-mask-requires c = (c.requires.0, of_round c.loop-j.j-iterator _ _ c.in-Some.ensures.steps)

pub loop-j-preserved : goal.loop-j-preserved
loop-j-preserved c =
    let l = c.loop-j in
    let more = c.rivals_at-mask in
    λ b. any_on _ _ _ _ c.in-Some.ensures.steps (l.invariant b) (has_or more.result l.mask b ∙ ap (λ (t : Bool). t || has l.mask b) (more.ensures b))

pub returns : goal.returns
returns c = λ b. any_over _ _ _ c.in-None.ensures.steps.0 (c.loop-j.invariant b)
