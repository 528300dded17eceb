use mathlib.Core.Path.{ap, ◌∙◌}
use Prim.Native.Nat.{ℕ}
use Rattle.std.proofs.Common.{rules, tests}
use Rattle.std.proofs.lemmas.Iterator.{YieldsList-from_slice}
use Rattle.std.proofs.lemmas.Iterator.Search.{all_from_yields_List}
use Rattle.base.specs.Tests.{all}
use Rattle.graph.specs.Memory.{list_of, view_of}
use Rattle.graph.specs.LearnerGraph.{common, valid_at}
use Rattle.graph.proofs.Chains.{all_chain}
use Rattle.graph.proofs.Graph.valid_at.Goals as goal

pub returns : goal.returns
unfolding valid_at
returns c =
    let a = c.args in let g = a.self.now in
    -- every quorum of a and every one of b have an acceptor in common with each other and with s
    let test = λ (s : ℕ). all (λ q. all (λ t. common (view_of g) s q t) (list_of g.counts g.masks a.b)) (list_of g.counts g.masks a.a) in
    let k = list_of g.counts g.masks c.pair_list-k.result in
    all_from_yields_List test _ _ _ c.all.ensures.ran (YieldsList-from_slice k (cc)) (λ x b q w. search (rules, tests))
    ∙ all_chain test k ∙ ap (λ (j : ℕ). all test (list_of g.counts g.masks j)) c.pair_list-k.ensures.0
