use mathlib.Core.Path.{◌≡◌}
use Prim.Native.Nat.{◌≤◌, ◌+◌}
use lib.ListN.{length}
use Rattle.graph_samples.proofs.cut_short.Given as goal

-- the file is as long as it was, and of the cuts up to k no more were turned down than were tried
abbrev pub invariant-loop-k : goal.invariant-loop-k
invariant-loop-k l = (2 ≤ l.k) × ((l.k ≤ 50) × ((l.n + 2 ≤ l.k) × (length l.file ≡ 50)))
