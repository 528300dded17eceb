use Prim.Native.Nat.{ℕ, ◌<◌, ◌≤◌, ◌+◌, ◌*◌}
use mathlib.Core.Path.{◌≡◌, refl, ap, ◌∙◌, sym}
use mathlib.Core.Option.{some}
use borrow.Author.Tests.{ne_eqb}
use lib.Dec.{T}
use mathlib.Core.Logic.{◌≢◌, ⊎_elim}
use mathlib.Core.List.{List}
use native.Mathlib.Omega.{arith}
use Rattle.round.specs.Round.{Round}
use Rattle.round.specs.Limits.{no_place, max_held}
use Rattle.round.specs.Holdings.{named, place_of, id_at}
use Rattle.round.specs.Handed.{place_fits}
use Rattle.round.proofs.Fitting.{place_cases}
use Rattle.admission.specs.Inside.Finding.{Bounded, place_found, Inside}
use Rattle.roundbytes.specs.Layout.{round_in, ids_at}
use Rattle.std.specs.Option.{unwrap_or}
use Rattle.std.proofs.Common.{Option, None, Some}
use Rattle.base.specs.Bytes.{part}
use Rattle.message.specs.Layout.{id_len}
use Rattle.round.specs.Rows.{or_zero}
use Rattle.round.specs.Delivery.{previous_place}
use Rattle.roundbytes.proofs.Fields.{id_at_lem}
use Rattle.admission.proofs.Finding.{found_inside}
use Rattle.admission.proofs.lookup.named_place.Goals as goal

held_place : (r : Round) (p : ℕ) → T (place_fits r p) → p ≢ no_place → p < r.held
held_place r p h d = ⊎_elim (λ e. absurd (d e)) (λ l. l) (place_cases r p h)

-- what was found for the id of a place, which is read as n
named_found : (s : List ℕ) (p n : ℕ) → Bounded s → T (place_fits (round_in s) p) → p ≢ no_place → n ≡ p → (f : Option ℕ) → place_found f ≡ place_of (round_in s) (part id_len s (ids_at + id_len * n)) → (or_zero (place_found f) ≡ previous_place (round_in s) (named (round_in s) p)) × Inside (round_in s) f
named_found s p n w h d e f q =
    let r = round_in s in
    let l = held_place r p h d in
    let i : part id_len s (ids_at + id_len * n) ≡ id_at r p = ap (λ (k : ℕ). part id_len s (ids_at + id_len * k)) e ∙ id_at_lem s p w.long (omega (arith, w.most)) in
    let o : named r p ≡ some (id_at r p) = simp (ne_eqb p no_place d) in
    let x : place_found f ≡ place_of r (id_at r p) = q ∙ ap (place_of r) i in
    (ap or_zero x ∙ sym (ap (previous_place r) o), found_inside r (id_at r p) f x)

-- what was found, or 0
or_none : (f : Option ℕ) → unwrap_or f 0 ≡ or_zero (place_found f)
or_none None = refl
or_none (Some p) = refl

low : (r : Round) (f : Option ℕ) → r.held ≤ max_held → Inside r f → unwrap_or f 0 < 256
low r None m w = omega arith
low r (Some p) m w = let h = w p refl in omega arith

pub overflow_cast-result : goal.overflow_cast-result
overflow_cast-result c =
    let a = c.args in
    let h = named_found a.s.now a.place c.from.result c.requires.0 c.requires.1 c.if-place-eq-NO_PLACE.false c.from.ensures c.place_at.result c.place_at.ensures in
    let l = low (round_in a.s.now) c.place_at.result c.requires.0.most h.1 in
    omega (arith, c.unwrap_or.ensures, l)

pub returns : goal.returns
returns c =
    let a = c.args in
    let h = named_found a.s.now a.place c.from.result c.requires.0 c.requires.1 c.if-place-eq-NO_PLACE.false c.from.ensures c.place_at.result c.place_at.ensures in
    c.unwrap_or.ensures ∙ or_none c.place_at.result ∙ h.0
