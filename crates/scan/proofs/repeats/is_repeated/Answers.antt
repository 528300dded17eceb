use mathlib.Core.Path.{refl, ap, ap₂, sym, ◌∙◌}
use mathlib.Core.Bool.{◌||◌}
use Rattle.base.specs.Tests.{any}
use Rattle.places.proofs.Loops.{any_take}
use Rattle.notes.specs.Inside.Layout.{word_notes, byte_notes}
use Rattle.scan.specs.Inside.Arrays.{is_repeat}
use native.Mathlib.Omega.{arith}
use Rattle.scan.proofs.repeats.is_repeated.Goals as goal

pub loop-p-init : goal.loop-p-init
unfolding any
loop-p-init c = (omega arith, refl)

pub loop-p-preserved : goal.loop-p-preserved
loop-p-preserved c = let a = c.args in
    let l = c.loop-p in
    let test = is_repeat (word_notes a.notes.now.words) (byte_notes a.notes.now.octets) a.name a.ballot a.learners in (
      omega arith,
      ap₂ ◌||◌ (c.is_repeat-found.ensures ∙ ap test c.from.ensures) l.invariant.1 ∙ sym (any_take test a.places.now l.p-index c.loop-p-test.true),
    )
