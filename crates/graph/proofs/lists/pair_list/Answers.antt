use mathlib.Core.Path.{◌≡◌, ap, sym, ◌∙◌}
use Prim.Native.Nat.{max}
use Rattle.graph.specs.Memory.{triangle, pair_list}
use native.Mathlib.Omega.{arith}
use Rattle.graph.proofs.lists.pair_list.Goals as goal

pub returns-then-a-b : goal.returns-then-a-b
unfolding pair_list
returns-then-a-b c = let a = c.args.a in let b = c.args.b in
    let m : max a b ≡ b = omega arith in let e = c.triangle.ensures.0 ∙ sym (ap triangle m) in (omega arith, omega arith)

pub returns-else-a-b : goal.returns-else-a-b
unfolding pair_list
returns-else-a-b c = let a = c.args.a in let b = c.args.b in
    let m : max a b ≡ a = omega arith in let e = c.triangle-else-a-b.ensures.0 ∙ sym (ap triangle m) in (omega arith, omega arith)
