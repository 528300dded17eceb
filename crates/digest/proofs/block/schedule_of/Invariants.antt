use Rattle.std.proofs.Common.{◌≡◌, ◌-◌, ◌≤◌, length, take}
use Rattle.digest.specs.Preprocessing.{words}
use Rattle.digest.specs.Sha256.{extended}
use Rattle.digest.proofs.block.schedule_of.Given as goal

-- The invariant: the first u words of w are the schedule's first u words.
abbrev pub invariant-loop-u : goal.invariant-loop-u
invariant-loop-u l = (16 ≤ l.u) × ((l.u ≤ 64) × ((length l.w ≡ 64) × (take l.u l.w ≡ extended (l.u - 16) (words 16 l.block))))
