use mathlib.Core.Path.{◌∙◌}
use mathlib.Core.Bool.{Bool, ◌||◌}
use Prim.Native.Nat.{ℕ}
use Rattle.std.proofs.Common.{rules, tests}
use Rattle.std.proofs.lemmas.Iterator.{YieldsList-from_slice}
use Rattle.std.proofs.lemmas.Iterator.Search.{all_from_yields_List}
use Rattle.base.specs.Tests.{any, all}
use Rattle.base.specs.Sets.{has, contains}
use Rattle.graph.specs.Memory.{list_of}
use Rattle.graph.specs.LearnerGraph.{is_safe, condensed_at}
use Rattle.graph.proofs.Chains.{all_chain}
use Rattle.graph.proofs.Graph.condensed_at.Goals as goal

pub returns : goal.returns
unfolding condensed_at is_safe
returns c =
    let g = c.args.self.now in
    -- its union with any mask of list j contains a mask of list m
    let test = λ (j m s : ℕ). all (λ t. any (contains g.acceptors (λ p. has s p || has t p)) (list_of g.counts g.masks m)) (list_of g.counts g.masks j) in
    let s = list_of g.counts g.masks c.pair_list-ab.result in
    let t : ℕ → Bool = test c.pair_list-bc.result c.pair_list-ac.result in
    all_from_yields_List t _ _ _ c.all.ensures.ran (YieldsList-from_slice s (cc)) (λ x b q w. search (rules, tests))
    ∙ all_chain t s
    ∙ λ i. all (test (c.pair_list-bc.ensures.0 i) (c.pair_list-ac.ensures.0 i)) (list_of g.counts g.masks (c.pair_list-ab.ensures.0 i))
