use Rattle.std.proofs.Common.{ℕ, List, ap, ◌∙◌}
use Rattle.digest.specs.declared.State.{State}
use Rattle.digest.specs.Sha256.{rounds, added, compressed}
use Rattle.digest.proofs.block.compress.Goals as goal

pub returns : goal.returns
unfolding compressed
returns c =
    let value = c.args.hash in
    c.sum.ensures ∙ ap (λ (s : State). added s value) (c.after_rounds-s.ensures ∙ ap (λ (w : List ℕ). rounds 64 w value) c.schedule_of-w.ensures)
