use Rattle.std.proofs.Common.{◌≡◌, ◌∙◌, rules}
use Rattle.base.specs.Bytes.{bytes}
use Rattle.demonstration.proofs.letter.Letter.proposal.Goals as goal

pub returns-clause-message : goal.returns-clause-message
unfolding bytes
returns-clause-message c =
    let taken : c.unwrap.result.items ≡ c.write_proposal.new.buf = search rules in
    taken ∙ c.write_proposal.ensures.1
