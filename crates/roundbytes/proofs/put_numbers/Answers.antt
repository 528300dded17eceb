use mathlib.Core.Path.{refl, ap, ◌∙◌}
use mathlib.Core.List.{[], ◌∷◌, ◌++◌}
use Rattle.base.specs.Bytes.{bytes, put_at}
use Rattle.base.proofs.Bytes.{put_at_more}
use Prim.Native.Nat.{ℕ}
use native.Mathlib.Omega.{arith}
use Rattle.roundbytes.specs.Layout.{house_at, bay_at, own_at, held_at, last_at}
use Rattle.roundbytes.proofs.put_numbers.Goals as goal

pub returns : goal.returns
unfolding bytes
returns c = let a = c.args in
    let b = a.buf.now in
    let h = bytes 2 a.house in
    let y = bytes 2 a.bay in
    let o = bytes 2 a.own in
    let e₁ = c.put16.ensures ∙ ap (λ (x : ℕ). put_at b house_at (bytes 2 x)) c.from.ensures in
    let e₂ = c.put16-2.ensures ∙ ap (λ (x : ℕ). put_at c.put16.new.buf bay_at (bytes 2 x)) c.from-2.ensures in
    let e₃ = c.put16-3.ensures ∙ ap (λ (x : ℕ). put_at c.put16-2.new.buf own_at (bytes 2 x)) c.from-3.ensures in
    let m₂ = put_at_more b c.put16.new.buf c.put16-2.new.buf h y house_at bay_at (omega arith) refl e₁ e₂ in
    let m₃ = put_at_more b c.put16-2.new.buf c.put16-3.new.buf (h ++ y) o house_at own_at (omega arith) refl m₂ e₃ in
    let m₄ = put_at_more b c.put16-3.new.buf c.put8.new.buf (h ++ y ++ o) (a.held ∷ []) house_at held_at (omega arith) refl m₃ c.put8.ensures in
    put_at_more b c.put8.new.buf c.put8-2.new.buf (h ++ y ++ o ++ (a.held ∷ [])) (a.last ∷ []) house_at last_at (omega arith) refl m₄ c.put8-2.ensures
