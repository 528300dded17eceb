use mathlib.Core.Path.{◌∙◌}
use mathlib.Core.Bool.{not}
use Prim.Native.Nat.{ℕ}
use lib.Bits.{bit_and}
use Rattle.std.proofs.Common.{rules, tests}
use Rattle.std.proofs.lemmas.Iterator.{YieldsList-from_slice}
use Rattle.std.proofs.lemmas.Iterator.Search.{all_from_yields_List}
use Rattle.base.specs.Tests.{any}
use Rattle.base.specs.Sets.{has, apart}
use Rattle.base.proofs.Tests.{all_cong}
use Rattle.graph.specs.Memory.{list_of, view_of}
use Rattle.graph.proofs.Memory.{none_apart_common}
use Rattle.graph.proofs.Chains.{all_chain}
use Rattle.graph.proofs.Graph.meets.Goals as goal

pub returns : goal.returns
returns c =
    let a = c.args in let g = a.self.now in
    let k = list_of g.counts g.masks a.a in let m = list_of g.counts g.masks a.b in
    let test = λ (q : ℕ). not (any (apart g.acceptors (has (bit_and a.s q))) m) in
    all_from_yields_List test _ _ _ c.all.ensures.ran (YieldsList-from_slice k (cc)) (λ x b q w. search (rules, tests))
    ∙ all_chain test k ∙ all_cong _ _ k (λ q w. none_apart_common (view_of g) a.s q m)
