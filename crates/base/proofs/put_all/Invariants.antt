use mathlib.Core.Path.{◌≡◌}
use Prim.Native.Nat.{◌≤◌}
use lib.ListN.{length}
use lib.Seq.{paste}
use Rattle.base.proofs.put_all.Given as goal

-- the first i bytes are copied, and no other byte is another
abbrev pub invariant-loop-i : goal.invariant-loop-i
invariant-loop-i l = (l.i ≤ length l.src) × ((length l.buf ≡ length l.initial.buf) × (l.buf ≡ paste l.initial.buf l.at l.src l.i))
