use Rattle.base.specs.Bytes.{be, bytes}
use Rattle.digest.specs.Constants.{constants}
use Rattle.digest.specs.Preprocessing.{padding, padded, words}
use Rattle.digest.specs.Sha256.{next_word, extended, schedule, T₁, T₂, round, rounds, added, compressed, hash, joined, sha256}
use Rattle.round_cases.specs.Cases.{proposal_for, P}
use Rattle.round_samples.proofs.papers.p_id.Goals as goal

pub returns : goal.returns
unfolding sha256 joined hash compressed added rounds round T₁ T₂ schedule extended next_word words be padded padding bytes constants proposal_for P
returns c = c.put_all.ensures
