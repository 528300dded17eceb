use mathlib.Core.Path.{refl, ap, ap₂, sym, ◌∙◌}
use mathlib.Core.Bool.{Bool, ◌||◌}
use Prim.Native.Nat.{ℕ, max}
use lib.Dec.{eqb}
use lib.ListN.{get_or}
use Rattle.base.specs.Tests.{any}
use Rattle.message.specs.Layout.{proposal_kind}
use Rattle.places.specs.Inside.PlaceSets.{in_set}
use Rattle.places.proofs.Loops.{any_take}
use Rattle.places.proofs.Membership.{in_zero, in_or}
use Rattle.round.specs.Holdings.{is_proposal_at}
use Rattle.roundbytes.specs.Layout.{round_in}
use Rattle.notes.specs.Inside.Layout.{word_notes}
use Rattle.scan.specs.Inside.Arrays.{highest}
use Rattle.scan.proofs.Highest.{highest_take}
use native.Mathlib.Omega.{arith}
use Rattle.scan.proofs.beneath.under.Goals as goal

pub loop-p-init : goal.loop-p-init
unfolding any highest
loop-p-init c = (omega arith, record { set = λ q h. in_zero q; top = refl; offer = refl })

pub loop-p-preserved : goal.loop-p-preserved
loop-p-preserved c = let a = c.args in
    let l = c.loop-p in
    let go = c.loop-p-test.true in
    let r = round_in a.s.now in
    let x = word_notes a.notes.now.words in
    let b = c.beneath_at-below in
    let e = c.from-k.ensures in
    let lies : ℕ → ℕ → Bool = λ q k. in_set (get_or x.low k 0) (get_or x.high k 0) q in (
      omega arith,
      record {
        set = λ q h. in_or b.result.low l.low b.result.high l.high q
            ∙ ap₂ ◌||◌ (ap₂ (λ (u v : ℕ). in_set u v q) b.ensures.0 b.ensures.1 ∙ ap (lies q) e) (l.invariant.1.set q h)
            ∙ sym (any_take (lies q) a.places.now l.p-index go);
        top = c.max-ballot.ensures ∙ ap₂ max (c.top_at.ensures ∙ ap (λ (k : ℕ). get_or x.tops k 0) e) l.invariant.1.top
            ∙ sym (highest_take x.tops a.places.now l.p-index go);
        offer = ap₂ ◌||◌ (ap (λ (k : ℕ). eqb k proposal_kind) c.kind_at.ensures ∙ ap (is_proposal_at r) e) l.invariant.1.offer
            ∙ sym (any_take (is_proposal_at r) a.places.now l.p-index go);
      },
    )
