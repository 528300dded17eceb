use mathlib.Core.Path.{sym, ap, ◌∙◌, subst}
use mathlib.Core.Bool.{◌&&◌}
use Prim.Native.Nat.{ℕ}
use lib.Dec.{T, eqb}
use Rattle.base.specs.Tests.{any, below}
use Rattle.base.specs.Sets.{has}
use Rattle.base.proofs.Tests.{and_l}
use Rattle.roundbytes.specs.Layout.{round_in}
use Rattle.notes.specs.Inside.Layout.{word_notes, byte_notes}
use Rattle.places.proofs.Membership.{has_zero}
use Rattle.places.proofs.Loops.{put_again, any_none}
use Rattle.voting.specs.Inside.Votes.{is_barred}
use Rattle.voting.proofs.Burying.{no_rival}
use native.Mathlib.Omega.{arith}
use Rattle.voting.proofs.learners.opposing.Goals as goal

pub returns-then-l-eq0 : goal.returns-then-l-eq0
returns-then-l-eq0 c =
    let a = c.args in
    let r = round_in a.s.now in
    let x = word_notes a.notes.now.words in
    let y = byte_notes a.notes.now.octets in
    λ q. has_zero q ∙ sym (any_none (λ b. is_barred r x y a.n a.set.low a.set.high a.signer a.v b && eqb b q) a.l (λ b h t. let e = c.if-l-eq0.true in omega arith))

pub returns-then-among-eq0 : goal.returns-then-among-eq0
returns-then-among-eq0 c =
    let a = c.args in
    let r = round_in a.s.now in
    let x = word_notes a.notes.now.words in
    let y = byte_notes a.notes.now.octets in
    λ q. has_zero q ∙ sym (any_none (λ b. is_barred r x y a.n a.set.low a.set.high a.signer a.v b && eqb b q) a.l (λ b h t. subst T (no_rival r x y a.n a.set.low a.set.high a.signer a.v b (sym (c.rivals-among.ensures b) ∙ ap (λ (m : ℕ). has m b) c.if-among-eq0.true ∙ has_zero b)) (and_l (is_barred r x y a.n a.set.low a.set.high a.signer a.v b) (eqb b q) t)))

pub loop-b-init : goal.loop-b-init
unfolding any below
loop-b-init c = (omega arith, λ q. has_zero q)

pub loop-b-preserved : goal.loop-b-preserved
loop-b-preserved c =
    let a = c.args in
    let r = round_in a.s.now in
    let x = word_notes a.notes.now.words in
    let y = byte_notes a.notes.now.octets in
    let l = c.loop-b in
    (omega arith, λ q. put_again (is_barred r x y a.n a.set.low a.set.high a.signer a.v) (λ b. b) l.b q c.bars-on.result _ _ (c.with_learner-mask.ensures q) c.bars-on.ensures (l.invariant.1 q))
