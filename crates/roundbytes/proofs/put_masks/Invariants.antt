use mathlib.Core.Path.{◌≡◌}
use Prim.Native.Nat.{◌-◌, ◌≤◌}
use lib.ListN.{length, take}
use Rattle.base.specs.Bytes.{put_at}
use Rattle.roundbytes.specs.Layout.{words, masks_at}
use Rattle.roundbytes.proofs.put_masks.Given as goal

-- The invariant: the first i numbers are put in.
abbrev pub invariant-loop-i : goal.invariant-loop-i
invariant-loop-i l = (l.i ≤ length l.masks) × ((length l.buf ≡ length l.initial.buf) × (l.buf ≡ put_at l.initial.buf masks_at (words 4 (take l.i l.masks))))

abbrev pub decreases-loop-i : goal.decreases-loop-i
decreases-loop-i l = length l.masks - l.i
