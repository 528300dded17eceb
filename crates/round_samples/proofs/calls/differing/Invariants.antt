use Rattle.std.proofs.Common.{◌≡◌, ◌≤◌, length}
use Rattle.round_samples.specs.Calls.{differing_in}
use Rattle.round_samples.proofs.calls.differing.Given as goal

-- so many bytes were found among those before i
abbrev pub invariant-loop-i : goal.invariant-loop-i
invariant-loop-i l = (l.i ≤ length l.buffer) × ((l.n ≤ l.i) × (l.n ≡ differing_in l.i l.buffer l.reply))
