-- An own number that the graph lacks is 17, unless it is 256.
use mathlib.Core.Path.{◌≡◌, ap, subst, ◌∙◌}
use mathlib.Core.Logic.{◌≢◌}
use mathlib.Core.Bool.{Bool, false}
use mathlib.Core.List.{List}
use Prim.Native.Nat.{ℕ, ◌≤◌}
use lib.Dec.{T, not_T}
use borrow.Author.Tests.{ne_eqb, le-ltb}
use Rattle.std.specs.Prelude.{Result, Ok}
use Rattle.base.specs.Tests.{pick}
use Rattle.base.specs.declared.refusal.Refusal.{Refusal}
use Rattle.base.specs.declared.refusal.Refusal.TheVariants.{Argument}
use Rattle.base.proofs.Tests.{not_true}
use Rattle.graph.specs.declared.Graph.{Graph}
use Rattle.graphfile.specs.Arrays.{reading_of}
use Rattle.round.specs.Round.{Round}
use Rattle.round.specs.Limits.{no_place, listening, own_allowed}
use Rattle.round.specs.Handed.{own_fits, fits}
use Rattle.round.specs.Opening.{Opened, empty_round, refused_opening, opened_with, opened}
use Rattle.round.specs.Answers.{opening_number}
use Rattle.round.specs.Row17.{ForeignOwnRefused}
use Rattle.round.proofs.Fitting.{fits_out}
use Rattle.round.proofs.OneByte.{unfit_is_17}

not_allowed : (own n : ℕ) → n ≤ own → own ≢ listening → own_allowed own n ≡ false
not_allowed own n h k = simp (ne_eqb own listening k, le-ltb own n h)

-- ---- given
foreign_opened : (file : List ℕ) (house bay own : ℕ) (g : Graph) → reading_of file ≡ Ok g → g.acceptors ≤ own → own ≢ listening
    → opening_number (opened file house bay own).answer ≡ 17
unfolding opened
foreign_opened file house bay own g e h k =
    let given : Bool → Opened = λ t. pick t (record { answer = Ok tt; round = empty_round g house bay own no_place }) (refused_opening Argument) in
    ap (λ (x : Result Graph Refusal). opening_number (opened_with x house bay own).answer) e
    ∙ ap (λ (t : Bool). opening_number (given t).answer) (not_allowed own g.acceptors h k)

-- ---- handed in
pub foreign_unfit : (r : Round) → r.graph.acceptors ≤ r.own → r.own ≢ listening → fits r ≡ false
unfolding own_fits
foreign_unfit r h k = not_true (fits r) (not_T (fits r) (λ w. subst T (not_allowed r.own r.graph.acceptors h k) (fits_out r w).own))

pub foreign_own_refused : ForeignOwnRefused
foreign_own_refused = (foreign_opened, λ r h k. unfit_is_17 r (foreign_unfit r h k))
