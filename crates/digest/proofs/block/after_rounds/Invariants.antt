use Rattle.std.proofs.Common.{◌≡◌, length}
use Rattle.digest.specs.Sha256.{rounds}
use Rattle.digest.proofs.block.after_rounds.Given as goal

-- after so many rounds the state is the definition's
abbrev pub invariant-loop-k : goal.invariant-loop-k
invariant-loop-k l = l.s ≡ rounds (length l.yielded) l.w l.initial.s
