use mathlib.Core.Path.{◌≡◌, refl, ap, sym, ◌∙◌}
use mathlib.Core.List.{List, ◌++◌}
use Prim.Native.Nat.{ℕ, ◌+◌}
use native.Mathlib.Numerals.{add-one}
use lib.ListN.{length, get_or, take, drop, set, length-set}
use lib.Seq.{paste, paste-zero, paste-suc, take-length}
use native.Mathlib.Omega.{arith}
use Rattle.base.proofs.put_all.Goals as goal

pub loop-i-init : goal.loop-i-init
loop-i-init c = (omega arith, (refl, paste-zero c.args.buf.now c.args.at c.args.src.now))

pub loop-i-preserved : goal.loop-i-preserved
loop-i-preserved c =
    let a = c.args in
    let l = c.loop-i in
    let v = get_or a.src.now l.i 0 in (
      omega arith,
      (
        length-set l.buf (a.at + l.i) v ∙ l.invariant.1.0,
        ap (λ (x : List ℕ). set x (a.at + l.i) v) l.invariant.1.1 ∙ paste-suc a.buf.now a.at a.src.now l.i 0 (omega arith) (omega arith)
            ∙ sym (ap (paste a.buf.now a.at a.src.now) (add-one l.i)),
      ),
    )

pub returns : goal.returns
returns c =
    let a = c.args in
    let l = c.loop-i in
    let e : l.i ≡ length a.src.now = omega arith in
    l.invariant.1.1 ∙ ap (paste a.buf.now a.at a.src.now) e
    ∙ ap (λ (x : List ℕ). take a.at a.buf.now ++ x ++ drop (a.at + length a.src.now) a.buf.now) (take-length a.src.now)
