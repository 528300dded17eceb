use mathlib.Core.Path.{◌≡◌, refl, sym, ap, ap₂, ◌∙◌}
use mathlib.Core.Bool.{Bool, true, false, not, ◌&&◌, ◌||◌}
use Prim.Native.Nat.{ℕ}
use lib.Dec.{eqb}
use lib.ListN.{get_or}
use Rattle.base.specs.Sets.{has}
use Rattle.base.specs.Ballots.{value_of}
use Rattle.roundbytes.specs.Layout.{round_in}
use Rattle.notes.specs.Inside.Layout.{word_notes, byte_notes}
use Rattle.places.specs.Inside.PlaceSets.{in_set}
use Rattle.places.proofs.Membership.{has_zero, other}
use Rattle.voting.proofs.learners.rivals_at.Goals as goal

-- s: in the set, f: a 2a, h: with the learner, g: of this signer, w: of another value
falls_first : (s f h g w : Bool) → (not f || not g) ≡ true → (s && f && h && g && w) ≡ false
falls_first false f h g w e = refl
falls_first true false h g w e = refl
falls_first true true false g w e = refl
falls_first true true true false w e = refl
falls_first true true true true w e = absurd (other e refl)

falls_then : (s f h g w : Bool) → (s && w) ≡ false → (s && f && h && g && w) ≡ false
falls_then false f h g w e = refl
falls_then true false h g w e = refl
falls_then true true false g w e = refl
falls_then true true true false w e = refl
falls_then true true true true w e = e

pub returns-then-form_at-signer_at : goal.returns-then-form_at-signer_at
returns-then-form_at-signer_at c =
    let a = c.args in
    let r = round_in a.s.now in
    let x = word_notes a.notes.now.words in
    let y = byte_notes a.notes.now.octets in
    let inside = in_set a.set.low a.set.high a.j in
    let form = eqb (get_or y.forms a.j 0) 2 in
    let signed = eqb (get_or r.signers a.j 0) a.signer in
    let differs = not (eqb (value_of (get_or x.tops a.j 0)) a.v) in
    λ b. has_zero b ∙ sym (falls_first inside form (has (get_or y.learners a.j 0) b) signed differs (sym (ap₂ (λ (f g : ℕ). not (eqb f 2) || not (eqb g a.signer)) c.form_at.ensures c.signer_at.ensures) ∙ c.if-form_at-signer_at.true))

pub returns-else-has-value : goal.returns-else-has-value
returns-else-has-value c =
    let a = c.args in
    let r = round_in a.s.now in
    let x = word_notes a.notes.now.words in
    let y = byte_notes a.notes.now.octets in
    let inside = in_set a.set.low a.set.high a.j in
    let form = eqb (get_or y.forms a.j 0) 2 in
    let signed = eqb (get_or r.signers a.j 0) a.signer in
    let differs = not (eqb (value_of (get_or x.tops a.j 0)) a.v) in
    λ b. has_zero b ∙ sym (falls_then inside form (has (get_or y.learners a.j 0) b) signed differs (sym (ap₂ (λ (t : Bool) (u : ℕ). t && not (eqb u a.v)) c.has.ensures (c.value.ensures ∙ ap value_of c.top_at.ensures)) ∙ c.if-has-value.false))
