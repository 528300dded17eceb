use Rattle.std.proofs.Common.{refl}
use Rattle.round_cases.specs.Cases.{G0}
use Rattle.round_samples.proofs.papers.g0.Goals as goal

pub returns : goal.returns
unfolding G0
returns c = refl
