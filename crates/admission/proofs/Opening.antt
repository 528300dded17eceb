-- What `start` answers and writes is what the rules say of an opening whose file was accepted.
use mathlib.Core.Path.{◌≡◌, ap, ◌∙◌}
use mathlib.Core.Bool.{Bool, true, false}
use mathlib.Core.List.{List}
use Prim.Native.Nat.{ℕ}
use Rattle.std.specs.Prelude.{Ok, Err}
use Rattle.base.specs.Tests.{pick}
use Rattle.base.specs.declared.refusal.Refusal.TheVariants.{Argument}
use Rattle.graph.specs.declared.Graph.{Graph}
use Rattle.round.specs.Outcomes.{Opening}
use Rattle.round.specs.Limits.{no_place, own_allowed}
use Rattle.round.specs.Opening.{Opened, empty_round, refused_opening, opened_with}
use Rattle.roundbytes.specs.Opening.{opened_to}

module _ (g : Graph) (house bay own : ℕ) (r : Opening) (b m : List ℕ) (f : m ≡ opened_to r (empty_round g house bay own no_place) b) where
  abbrev by : Bool → Opened
  by t = pick t (record { answer = Ok tt; round = empty_round g house bay own no_place }) (refused_opening Argument)

  started_by : (t : Bool) → r ≡ pick t (Ok tt) (Err Argument) → (r ≡ (by t).answer) × (m ≡ opened_to (by t).answer (by t).round b)
  started_by true e = (e, f ∙ ap (λ (o : Opening). opened_to o (empty_round g house bay own no_place) b) e)
  started_by false e = (e, f ∙ ap (λ (o : Opening). opened_to o (empty_round g house bay own no_place) b) e)

  pub started : r ≡ pick (own_allowed own g.acceptors) (Ok tt) (Err Argument)
      → (r ≡ (opened_with (Ok g) house bay own).answer) × (m ≡ opened_to (opened_with (Ok g) house bay own).answer (opened_with (Ok g) house bay own).round b)
  started e = started_by (own_allowed own g.acceptors) e
