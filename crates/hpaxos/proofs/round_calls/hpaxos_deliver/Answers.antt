use mathlib.Core.Path.{ap, sym, ◌∙◌}
use native.Mathlib.Omega.{arith}
use Rattle.std.specs.Prelude.{Ok}
use Rattle.round.specs.Answers.{outcome_number}
use Rattle.hpaxos.proofs.Rounds.{reply_short}
use Rattle.hpaxos.proofs.round_calls.hpaxos_deliver.Goals as goal

pub overflow_add-result : goal.overflow_add-result
overflow_add-result c =
    let a = c.args in
    let short = reply_short a.round.now a.message.now a.reply.now c.in-Ok-Some.len (λ k. (c.slice_known-1.given k).fits) (sym c.deliver.ensures.0 ∙ c.in-Ok-Some.is ∙ ap Ok c.in-Ok-Some.field-0-is) in
    record { fits = omega arith }

pub overflow_cast-result : goal.overflow_cast-result
overflow_cast-result c =
    let a = c.args in
    let short = reply_short a.round.now a.message.now a.reply.now c.in-Ok-Some.len (λ k. (c.slice_known-1.given k).fits) (sym c.deliver.ensures.0 ∙ c.in-Ok-Some.is ∙ ap Ok c.in-Ok-Some.field-0-is) in
    record { fits = omega arith }
