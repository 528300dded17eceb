use Rattle.std.proofs.Common.{◌≡◌, ◌≤◌, length, take}
use Rattle.digest.specs.Preprocessing.{words}
use Rattle.digest.proofs.block.block_words.Given as goal

-- The invariant: the first t words of w are the block's first t words.
abbrev pub invariant-loop-t : goal.invariant-loop-t
invariant-loop-t l = (l.t ≤ 16) × ((length l.w ≡ 64) × (take l.t l.w ≡ words l.t l.block))
