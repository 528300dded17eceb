use mathlib.Core.Path.{◌≡◌, refl, ap, ap₂, sym, ◌∙◌}
use mathlib.Core.List.{List}
use Prim.Native.Nat.{ℕ, ◌+◌, ◌*◌, ◌-◌}
use native.Mathlib.Numerals.{add-one}
use lib.ListN.{length, get_or, take, drop}
use Rattle.base.specs.Bytes.{part, put_at}
use Rattle.base.proofs.Bytes.{put_at_put_at, put_at_none}
use Rattle.message.specs.Inside.Writing.{gathered}
use Rattle.message.proofs.Gathers.{gathered_length}
use borrow.Author.Rules.{rules}
use native.Mathlib.Omega.{arith}
use Rattle.message.proofs.writer.put_references.Goals as goal

pub loop-i-init : goal.loop-i-init
unfolding gathered
loop-i-init c = (omega arith, (refl, put_at_none c.args.buf.now c.args.at))

pub loop-i-preserved : goal.loop-i-preserved
unfolding gathered
loop-i-preserved c =
    let a = c.args in
    let l = c.loop-i in
    let i = l.i in
    let b = a.buf.now in
    let ids = a.ids.now in
    let places = a.places.now in
    let from = 32 * c.from-from.result in
    let w = part 32 ids (32 * get_or places i 0) in
    let k : from + 32 - from ≡ 32 = omega arith in
    let put : c.put_all.new.buf ≡ put_at l.buf (a.at + 32 * i) w =
    c.put_all.ensures
    ∙ ap (λ (x : ℕ). put_at l.buf (a.at + 32 * i) (take x (drop from ids))) k
    ∙ ap (λ (x : ℕ). put_at l.buf (a.at + 32 * i) (part 32 ids (32 * x))) c.from-from.ensures
    in
    let g = gathered_length i ids places (λ j h. c.requires.1.1 j (omega arith)) in
    let at : a.at + 32 * i ≡ a.at + length (gathered i ids places) = omega arith in (
      omega arith,
      (
        search rules,
        put ∙ ap₂ (λ (x : List ℕ) (y : ℕ). put_at x y w) l.invariant.1.1 at ∙ put_at_put_at b a.at (gathered i ids places) w (omega arith)
            ∙ sym (ap (λ (x : ℕ). put_at b a.at (gathered x ids places)) (add-one i)),
      ),
    )
