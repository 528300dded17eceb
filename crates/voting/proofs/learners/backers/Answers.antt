use mathlib.Core.Path.{ap, ap₂, ◌∙◌}
use mathlib.Core.Bool.{Bool, ◌&&◌, ◌||◌}
use Prim.Native.Nat.{ℕ}
use lib.Dec.{eqb}
use lib.ListN.{get_or, get_or-replicate}
use Rattle.base.specs.Sets.{has}
use Rattle.base.proofs.Tests.{and_l}
use Rattle.places.proofs.Membership.{has_zero}
use Rattle.places.proofs.Going.{of_round, any_begun, any_on, any_over}
use Rattle.round.specs.Holdings.{signer_at}
use Rattle.roundbytes.specs.Layout.{round_in}
use Rattle.notes.specs.Inside.Layout.{word_notes, byte_notes}
use Rattle.voting.specs.Inside.Votes.{is_backer}
use borrow.Author.Rules.{rules}
use native.Mathlib.Omega.{arith}
use Rattle.graph.specs.Limits.{max_learners}
use Rattle.voting.proofs.learners.backers.Goals as goal

pub loop-j-init : goal.loop-j-init
loop-j-init c =
    let a = c.args in
    let r = round_in a.s.now in
    let x = word_notes a.notes.now.words in
    let y = byte_notes a.notes.now.octets in
    let few = c.requires.1 in (
      search rules,
      λ q p h m.
          let f = is_backer x y a.set.low a.set.high q a.ballot in
          any_begun (λ j. f j && eqb (signer_at r j) p) a.n f a.walk _ _ _ c.into_iter-j-iterator.ensures.into_iter_gives c.below-j-items.ensures (c.requires.0.backers q)
          (λ j t. and_l (f j) (eqb (signer_at r j) p) t) (ap (λ (u : ℕ). has u p) (get_or-replicate max_learners q 0 0 (omega arith)) ∙ has_zero p),
    )

pub backed_at-to-requires : goal.backed_at-to-requires
backed_at-to-requires c = of_round c.loop-j.j-iterator _ _ c.in-Some.ensures.steps

pub signer_at-requires : goal.signer_at-requires
signer_at-requires c = (c.requires.0.long, of_round c.loop-j.j-iterator _ _ c.in-Some.ensures.steps)

pub loop-j-preserved : goal.loop-j-preserved
loop-j-preserved c =
    let a = c.args in
    let r = round_in a.s.now in
    let x = word_notes a.notes.now.words in
    let y = byte_notes a.notes.now.octets in
    let l = c.loop-j in
    let to = c.backed_at-to in (
      search rules,
      λ q p h m.
          let f = is_backer x y a.set.low a.set.high q a.ballot in
          any_on (λ j. f j && eqb (signer_at r j) p) _ _ _ c.in-Some.ensures.steps (l.invariant.1 q p h m)
          (c.put_backer.ensures q p h m ∙ ap₂ (λ (b : Bool) (u : ℕ). (b && eqb u p) || has (get_or l.sets q 0) p) (to.ensures q) c.signer_at.ensures),
    )

pub returns : goal.returns
returns c = let l = c.loop-j in (l.invariant.0, λ q p h m. any_over _ _ _ c.in-None.ensures.steps.0 (l.invariant.1 q p h m))
