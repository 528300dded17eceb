use mathlib.Core.Path.{sym, ap, ap₂, ◌∙◌, subst}
use mathlib.Core.Bool.{Bool, ◌&&◌, ◌||◌}
use Prim.Native.Nat.{ℕ}
use lib.Dec.{eqb}
use Rattle.base.specs.Tests.{any, below}
use Rattle.base.specs.Sets.{has}
use Rattle.base.proofs.Tests.{and_l}
use Rattle.round.specs.Holdings.{signer_at}
use Rattle.roundbytes.specs.Layout.{round_in}
use Rattle.notes.specs.Inside.Layout.{word_notes, byte_notes}
use Rattle.places.specs.Inside.PlaceSets.{Covers}
use Rattle.places.proofs.Membership.{has_zero}
use Rattle.places.proofs.Going.{of_round, any_begun, any_on, any_over}
use Rattle.deciding.specs.Inside.Deciding.{is_voter}
use Rattle.deciding.proofs.report.voters.Goals as goal

pub loop-j-init : goal.loop-j-init
loop-j-init c =
    let a = c.args in
    let r = round_in a.s.now in
    let voter = is_voter r (word_notes a.notes.now.words) (byte_notes a.notes.now.octets) a.a a.x in
    let cover = subst (λ (n : ℕ). Covers n voter a.walk.low a.walk.high) (sym c.held_of-n.ensures.0) c.requires.1.1.covers in
    λ p h. any_begun (λ j. voter j && eqb (signer_at r j) p) c.held_of-n.result voter a.walk _ _ _ c.into_iter-j-iterator.ensures.into_iter_gives c.below-j-items.ensures cover
    (λ i t. and_l (voter i) (eqb (signer_at r i) p) t) (has_zero p)

pub is_voter-on-requires : goal.is_voter-on-requires
is_voter-on-requires c = (c.requires.0, (c.requires.1.0, of_round c.loop-j.j-iterator _ _ c.in-Some.ensures.steps))

pub signer_at-requires : goal.signer_at-requires
signer_at-requires c = (c.requires.0, of_round c.loop-j.j-iterator _ _ c.in-Some.ensures.steps)

pub loop-j-preserved : goal.loop-j-preserved
loop-j-preserved c =
    let a = c.args in
    let r = round_in a.s.now in
    let voter = is_voter r (word_notes a.notes.now.words) (byte_notes a.notes.now.octets) a.a a.x in
    let l = c.loop-j in
    λ p h. any_on (λ j. voter j && eqb (signer_at r j) p) _ _ _ c.in-Some.ensures.steps (l.invariant p h)
    (c.with_acceptor-mask.ensures p h ∙ ap₂ (λ (b : Bool) (k : ℕ). (b && eqb k p) || has l.mask p) c.is_voter-on.ensures c.signer_at.ensures)

pub returns : goal.returns
returns c =
    let a = c.args in
    let r = round_in a.s.now in
    let voter = is_voter r (word_notes a.notes.now.words) (byte_notes a.notes.now.octets) a.a a.x in
    λ p h. any_over _ _ _ c.in-None.ensures.steps.0 (c.loop-j.invariant p h) ∙ ap (λ (n : ℕ). any (λ j. voter j && eqb (signer_at r j) p) (below n)) c.held_of-n.ensures.0
