use mathlib.Core.Path.{refl, ap, sym, ◌∙◌}
use mathlib.Core.List.{List}
use Prim.Native.Nat.{ℕ, ◌+◌, ◌*◌}
use native.Mathlib.Numerals.{add-one}
use lib.ListN.{get_or, take}
use lib.Seq.{length-take-le, take-suc}
use Rattle.base.specs.Bytes.{bytes, put_at}
use Rattle.base.proofs.Bytes.{put_at_none, put_at_more}
use Rattle.roundbytes.specs.Layout.{words, masks_at}
use Rattle.roundbytes.proofs.RoundBytes.{words_snoc, words_length}
use borrow.Author.Rules.{rules}
use native.Mathlib.Omega.{arith}
use Rattle.roundbytes.proofs.put_masks.Goals as goal

pub loop-i-init : goal.loop-i-init
unfolding words
loop-i-init c = (omega arith, (refl, put_at_none c.args.buf.now masks_at))

pub loop-i-preserved : goal.loop-i-preserved
loop-i-preserved c = let b = c.args.buf.now in
    let v = c.args.masks.now in
    let l = c.loop-i in
    let x = get_or v l.i 0 in
    let t = take l.i v in
    let k = words_length 4 t in
    let n = length-take-le l.i v (omega arith) in (
      omega arith,
      (
        search rules,
        put_at_more b l.buf c.put32.new.buf (words 4 t) (bytes 4 x) masks_at (masks_at + 4 * l.i) (omega arith) (omega arith) l.invariant.1.1 c.put32.ensures
            ∙ ap (put_at b masks_at) (sym (words_snoc 4 t x))
            ∙ ap (λ (y : List ℕ). put_at b masks_at (words 4 y)) (sym (take-suc v l.i 0 (omega arith)))
            ∙ sym (ap (λ (n : ℕ). put_at b masks_at (words 4 (take n v))) (add-one l.i)),
      ),
    )
