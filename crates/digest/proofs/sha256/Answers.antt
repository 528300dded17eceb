use Rattle.std.proofs.Common.{ap, ◌∙◌}
use Rattle.digest.specs.Sha256.{joined, sha256}
use Rattle.digest.proofs.sha256.Goals as goal

pub returns : goal.returns
unfolding sha256
returns c = c.bytes_of.ensures ∙ ap joined c.hash_value.ensures
