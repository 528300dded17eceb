use mathlib.Core.Path.{◌≡◌}
use Prim.Native.Nat.{◌-◌, ◌≤◌, ◌*◌}
use lib.ListN.{length, take}
use Rattle.roundbytes.specs.Layout.{numbers, masks_at}
use Rattle.graph.specs.Limits.{lists, max_masks}
use Rattle.roundbytes.proofs.masks_in.Given as goal

-- The invariant: the first i numbers are read.
abbrev pub invariant-loop-i : goal.invariant-loop-i
invariant-loop-i l = (l.i ≤ (max_masks * lists)) × ((length l.mask-items ≡ (max_masks * lists)) × (take l.i l.mask-items ≡ numbers 4 l.i l.s masks_at))

abbrev pub decreases-loop-i : goal.decreases-loop-i
decreases-loop-i l = (max_masks * lists) - l.i
