use Rattle.std.proofs.Common.{refl}
use Rattle.round_samples.specs.Calls.{blanks}
use Rattle.round_samples.proofs.calls.blank.Goals as goal

pub returns : goal.returns
unfolding blanks
returns g c = refl
