use Rattle.round_cases.specs.Cases.{G1, thirds, four}
use Rattle.round_samples.proofs.papers.g1.Goals as goal

pub returns : goal.returns
unfolding G1 thirds four
returns c = c.put_all.ensures
