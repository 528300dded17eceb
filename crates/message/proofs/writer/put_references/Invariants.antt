use mathlib.Core.Path.{◌≡◌}
use Prim.Native.Nat.{◌≤◌}
use lib.ListN.{length}
use Rattle.base.specs.Bytes.{put_at}
use Rattle.message.specs.Inside.Writing.{gathered}
use Rattle.message.proofs.writer.put_references.Given as goal

-- the first i ids are written one behind the other, and no other byte is another
abbrev pub invariant-loop-i : goal.invariant-loop-i
invariant-loop-i l = (l.i ≤ l.n) × ((length l.buf ≡ length l.initial.buf) × (l.buf ≡ put_at l.initial.buf l.at (gathered l.i l.ids l.places)))
