use mathlib.Core.Path.{◌≡◌}
use Prim.Native.Nat.{◌+◌, ◌*◌, ◌-◌, ◌≤◌}
use Rattle.base.specs.Bytes.{be}
use Rattle.message.specs.Layout.{id_len}
use Rattle.message.specs.Order.{ascending, word_len}
use Rattle.message.proofs.order.ids_ascend.Given as goal

-- the ids so far ascend, so that what is left decides, and the first word of the id at hand was read
abbrev pub invariant-loop-i : goal.invariant-loop-i
invariant-loop-i l = (l.i ≤ l.n) × ((l.first ≡ be word_len l.s (l.from + id_len * l.i)) × (ascending l.n l.s l.from ≡ ascending (l.n - l.i) l.s (l.from + id_len * l.i)))
