use mathlib.Core.Path.{◌≡◌, refl, sym, ap, ap₂, ◌∙◌}
use mathlib.Core.Bool.{Bool, true, false, not, ◌&&◌, ◌||◌}
use Prim.Native.Nat.{ℕ}
use lib.Dec.{eqb}
use lib.ListN.{get_or}
use Rattle.base.specs.Sets.{has}
use Rattle.notes.specs.Inside.Layout.{word_notes, byte_notes}
use Rattle.places.specs.Inside.PlaceSets.{in_set}
use Rattle.places.proofs.Membership.{has_zero, other}
use Rattle.voting.proofs.learners.backed_at.Goals as goal

-- s: in the set, f: a 1b, h: fresh for the learner, w: of this ballot
falls : (s f h w : Bool) → (not f || not w) ≡ true → (s && f && h && w) ≡ false
falls false f h w e = refl
falls true false h w e = refl
falls true true false w e = refl
falls true true true false e = refl
falls true true true true e = absurd (other e refl)

pub returns-then-form_at-top_at : goal.returns-then-form_at-top_at
returns-then-form_at-top_at c =
    let a = c.args in
    let x = word_notes a.notes.now.words in
    let y = byte_notes a.notes.now.octets in
    let inside = in_set a.set.low a.set.high a.j in
    let form = eqb (get_or y.forms a.j 0) 1 in
    let equal = eqb (get_or x.tops a.j 0) a.ballot in
    λ b. has_zero b ∙ sym (falls inside form (has (get_or y.fresh a.j 0) b) equal (sym (ap₂ (λ (f g : ℕ). not (eqb f 1) || not (eqb g a.ballot)) c.form_at.ensures c.top_at.ensures) ∙ c.if-form_at-top_at.true))

pub returns-else-has : goal.returns-else-has
returns-else-has c =
    let a = c.args in
    let x = word_notes a.notes.now.words in
    let y = byte_notes a.notes.now.octets in
    let form = eqb (get_or y.forms a.j 0) 1 in
    let equal = eqb (get_or x.tops a.j 0) a.ballot in
    λ b. has_zero b ∙ sym (ap (λ (t : Bool). t && form && has (get_or y.fresh a.j 0) b && equal) (sym c.has.ensures ∙ c.if-has.false))
