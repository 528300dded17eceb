use Rattle.std.proofs.Common.{◌≡◌, ◌-◌, ◌*◌, ◌/◌, ◌^◌, ◌≤◌, length, take}
use Rattle.base.specs.Bytes.{bytes}
use Rattle.base.proofs.put_number.Given as goal

-- the first i bytes are put in
abbrev pub invariant-loop-i : goal.invariant-loop-i
invariant-loop-i l = record { size : length l.byte-items ≡ l.n; within : l.i ≤ l.n; so_far : take l.i l.byte-items ≡ bytes l.i (l.x / 2 ^ (8 * (l.n - l.i))) }
