use mathlib.Core.Path.{◌≡◌, ap, sym, ◌∙◌}
use Prim.Native.Nat.{ℕ, ◌+◌, ◌-◌, ◌*◌, min}
use lib.ListN.{get_or, take, drop}
use lib.Seq.{slice}
use native.Mathlib.Omega.{arith}
use Rattle.std.proofs.lemmas.List.{drop-take}
use Rattle.graph.specs.Limits.{max_masks}
use Rattle.graph.specs.Memory.{list_of}
use Rattle.graph.proofs.Graph.list.Goals as goal

pub returns : goal.returns
unfolding list_of
returns c =
    let from = max_masks * c.args.k in let masks = c.args.self.now.masks in let n = c.min-count.result in
    let e : from + n - from ≡ n = omega arith in
    let m : n ≡ min (get_or c.args.self.now.counts c.args.k 0) max_masks = omega arith in
    ap (λ (k : ℕ). take k (drop from masks)) e ∙ sym (drop-take from n masks) ∙ ap (λ (k : ℕ). slice from (from + k) masks) m
