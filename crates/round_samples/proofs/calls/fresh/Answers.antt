use Rattle.std.proofs.Common.{refl}
use Rattle.round_samples.specs.Calls.{zeros}
use Rattle.round_samples.proofs.calls.fresh.Goals as goal

pub returns : goal.returns
unfolding zeros
returns c = refl
