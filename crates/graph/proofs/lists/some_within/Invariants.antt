use mathlib.Core.Path.{◌≡◌}
use lib.ListN.{length}
use lib.Seq.{slice}
use Rattle.base.specs.Tests.{any}
use Rattle.graph.specs.Inside.Asking.{within}
use Rattle.graph.proofs.lists.some_within.Given as goal

-- no mask before place i lies within the set
abbrev pub invariant-loop-mask : goal.invariant-loop-mask
invariant-loop-mask l = any (within l.set) l.list ≡ any (within l.set) (slice l.mask-index (length l.list) l.list)
