use Rattle.digest.specs.Sha256.{round, T₁, T₂}
use Rattle.digest.proofs.block.after_round.Goals as goal

pub returns : goal.returns
unfolding round T₁ T₂
returns c = cc
