use Rattle.std.proofs.Common.{◌∙◌, ap, ℕ, List, replicate}
use Rattle.engine.specs.Calls.{deliver_to}
use Rattle.message.specs.declared.layout.TheConstants.{MAX_LEN}
use Rattle.demonstration.specs.declared.party.Party.{Party}
use Rattle.demonstration.proofs.party.Party.deliver.Goals as goal
use Rattle.demonstration.proofs.party.Party.deliver.Goals.{then-ne, else-ne}

pub returns-in-Ok-Some-clause-round : goal.returns-in-Ok-Some-clause-round
returns-in-Ok-Some-clause-round c =
    c.builds_on.ensures.0 ∙ c.deliver.ensures.1.0 ∙ ap (λ (b : List ℕ). deliver_to c.args.self.now.round b (replicate MAX_LEN 0)) c.deref.ensures.0

pub returns-after-ne-clause-round : goal.returns-after-ne-clause-round
returns-after-ne-clause-round c =
    let delivered = c.deliver.ensures.1.0 ∙ ap (λ (b : List ℕ). deliver_to c.args.self.now.round b (replicate MAX_LEN 0)) c.deref.ensures.0 in
    elim c.if-ne.branch [
      | then-ne w ↦ ap (λ (p : Party). p.round) w.self-is ∙ w.builds_on-then-ne.ensures.0 ∙ delivered
      | else-ne w ↦ ap (λ (p : Party). p.round) w.self-is ∙ delivered
    ]

pub returns-in-Err-clause-round : goal.returns-in-Err-clause-round
returns-in-Err-clause-round c =
    c.deliver.ensures.1.0 ∙ ap (λ (b : List ℕ). deliver_to c.args.self.now.round b (replicate MAX_LEN 0)) c.deref.ensures.0
