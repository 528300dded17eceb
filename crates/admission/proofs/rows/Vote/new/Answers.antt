use mathlib.Core.Path.{ap, ◌∙◌}
use mathlib.Core.List.{List}
use lib.ListN.{length}
use Prim.Native.Nat.{ℕ}
use Rattle.admission.specs.declared.rows.Vote.{Vote}
use Rattle.admission.proofs.Votes.{filled_put}
use Rattle.admission.proofs.rows.Vote.new.Goals as goal

pub returns : goal.returns
returns c =
    let a = c.args in
    ap {B = Vote} (λ (x : List ℕ). record { signer = a.signer; previous = a.previous; count = length a.places.now; places = x }) (c.put_all.ensures ∙ filled_put a.places.now)
