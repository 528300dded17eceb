use mathlib.Core.Path.{ap, ◌∙◌}
use Prim.Native.Nat.{ℕ, ◌-◌}
use lib.Bits.{bit_or}
use Rattle.std.proofs.Common.{rules}
use Rattle.base.specs.Tests.{any}
use Rattle.base.specs.Sets.{has, contains}
use Rattle.graph.specs.Inside.Asking.{within}
use Rattle.graph.proofs.Memory.{list_contained}
use Rattle.graph.proofs.Graph.some_contained.Goals as goal

pub returns : goal.returns
returns c =
    let a = c.args in let n = a.self.now.acceptors in let l = c.list-masks.result.now in
    c.some_within.ensures ∙ ap (λ (x : ℕ). any (within (bit_or a.set (4294967295 - x))) l) c.known.ensures
    ∙ list_contained l n a.set (λ i. search rules) c.ranges.set.fits
    ∙ ap (any (contains n (has a.set))) c.list-masks.ensures
