use Rattle.digest.specs.Sha256.{added}
use Rattle.digest.proofs.block.sum.Goals as goal

pub returns : goal.returns
unfolding added
returns c = cc
