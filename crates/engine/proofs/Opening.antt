-- What an opening answers and writes, from what was read of its file.
use mathlib.Core.Path.{◌≡◌, refl, ap, sym, ◌∙◌}
use mathlib.Core.Bool.{Bool, true, false}
use mathlib.Core.List.{List}
use Prim.Native.Nat.{ℕ, ◌≤◌, ◌<◌}
use lib.ListN.{length}
use borrow.Author.Tests.{lt-ltb, le-ltb}
use Rattle.std.specs.Prelude.{Result, Ok, Err}
use Rattle.base.specs.Tests.{pick}
use Rattle.base.specs.declared.refusal.Refusal.{Refusal}
use Rattle.base.specs.declared.refusal.Refusal.TheVariants.{Argument}
use Rattle.graph.specs.declared.Graph.{Graph}
use Rattle.graphfile.specs.Arrays.{reading_of}
use Rattle.round.specs.Outcomes.{Opening}
use Rattle.round.specs.Limits.{no_place, own_allowed}
use Rattle.round.specs.Opening.{Opened, empty_round, refused_opening, opened_with, opened}
use Rattle.roundbytes.specs.Layout.{round_len}
use Rattle.roundbytes.specs.Opening.{opened_to}
use Rattle.admission.proofs.Opening.{started}
use Rattle.engine.specs.Calls.{opening_in, open_answer, open_to}

module _ (file : List ℕ) (house bay own : ℕ) (s : List ℕ) (got : Result Graph Refusal) (read : got ≡ reading_of file) where
  -- by what the file was answered
  by_file : (y : Result Graph Refusal) → got ≡ y → opened file house bay own ≡ opened_with y house bay own
  unfolding opened
  by_file y e = ap (λ (z : Result Graph Refusal). opened_with z house bay own) (sym read ∙ e)

  -- by what is opened, and what the buffer makes of it
  gives : (x : Opened) (o : Opening) → opened file house bay own ≡ x → o ≡ opening_in x.answer s
      → (o ≡ open_answer file house bay own s) × (opened_to o x.round s ≡ open_to file house bay own s)
  unfolding open_answer open_to
  gives x o e h = (
    h ∙ ap (λ (y : Opened). opening_in y.answer s) (sym e),
    ap (λ (p : Opening). opened_to p x.round s) h ∙ ap (λ (y : Opened). opened_to (opening_in y.answer s) y.round s) (sym e),
  )

  -- the file was refused: so is the opening, however short the buffer is
  pub opens_not : (e : Refusal) → got ≡ Err e → (Err e ≡ open_answer file house bay own s) × (s ≡ open_to file house bay own s)
  opens_not e h = gives (refused_opening e) (Err e) (by_file (Err e) h) refl

  -- it was accepted, and the buffer is too short
  pub opens_short : length s < round_len → (g : Graph) → got ≡ Ok g
      → (Err Argument ≡ open_answer file house bay own s) × (s ≡ open_to file house bay own s)
  opens_short short g e =
      gives (opened_with (Ok g) house bay own) (Err Argument) (by_file (Ok g) e) (none (own_allowed own g.acceptors))
    where
      none : (b : Bool) → Err Argument ≡ opening_in (pick b (record { answer = Ok tt; round = empty_round g house bay own no_place }) (refused_opening Argument)).answer s
      none true = sym (simp (lt-ltb (length s) round_len short))
      none false = refl

  -- it was accepted, and the buffer is long enough: the round is put in, unless the graph lacks the own number
  pub opens : round_len ≤ length s → (g : Graph) → got ≡ Ok g → (a : Opening) (after : List ℕ)
      → a ≡ pick (own_allowed own g.acceptors) (Ok tt) (Err Argument)
      → after ≡ opened_to a (empty_round g house bay own no_place) s → (a ≡ open_answer file house bay own s) × (after ≡ open_to file house bay own s)
  opens long g e a after p q =
      let o = opened_with (Ok g) house bay own in
      let y = started g house bay own a s after q p in
      let z = gives o o.answer (by_file (Ok g) e) (whole o.answer) in
      (y.0 ∙ z.0, y.1 ∙ z.1)
    where
      whole : (o : Opening) → o ≡ opening_in o s
      whole (Ok tt) = sym (simp (le-ltb (length s) round_len long))
      whole (Err x) = refl
