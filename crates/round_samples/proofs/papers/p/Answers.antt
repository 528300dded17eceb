use Rattle.base.specs.Bytes.{bytes}
use Rattle.round_cases.specs.Cases.{proposal_for, P}
use Rattle.round_samples.proofs.papers.p.Goals as goal

pub returns : goal.returns
unfolding bytes proposal_for P
returns c = c.proposal.ensures
