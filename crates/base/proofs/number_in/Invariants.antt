use Rattle.std.proofs.Common.{◌≡◌, ◌-◌, ◌*◌, ◌^◌, ◌≤◌}
use Rattle.base.specs.Bytes.{be}
use Rattle.base.proofs.number_in.Given as goal

-- the number in the first i bytes, at the top of the n
abbrev pub invariant-loop-i : goal.invariant-loop-i
invariant-loop-i l = record { so_far : l.i ≤ l.n; value : l.x ≡ be l.i l.s l.at * 2 ^ (8 * (l.n - l.i)) }
