use mathlib.Core.Path.{◌≡◌, ap, sym, ◌∙◌}
use Prim.Native.Nat.{ℕ, ◌-◌, ◌+◌, ◌*◌}
use lib.Dec.{ltb}
use native.Mathlib.Omega.{arith}
use Rattle.std.proofs.Common.{rules, tests}
use Rattle.std.proofs.lemmas.Iterator.{YieldsList-from_slice}
use Rattle.std.proofs.lemmas.Iterator.Search.{all_from_yields_List}
use Rattle.base.proofs.Cuts.{part_part}
use Rattle.base.specs.Bytes.{part}
use Rattle.base.specs.Tests.{all}
use Rattle.graph.proofs.Chains.{all_chain}
use Rattle.round.specs.Limits.{max_held}
use Rattle.roundbytes.specs.Layout.{references_at}
use Rattle.roundbytes.proofs.Fields.{references_in_lem}
use mathlib.Core.List.{List}
use Rattle.handed.proofs.refers_back.Goals as goal

pub returns : goal.returns
returns c =
    let a = c.args in
    let h = c.requires in
    let s = a.s.now in
    let test = λ (j : ℕ). ltb j a.p in
    let first = references_at + max_held * a.p in
    let e : first + a.count - first ≡ a.count = omega arith in
    all_from_yields_List test _ _ _ c.all.ensures.ran (YieldsList-from_slice (part (first + a.count - first) s first) cc) (λ x b q w. search (rules, tests))
    ∙ all_chain test (part (first + a.count - first) s first)
    ∙ ap (λ (k : ℕ). all test (part k s first)) e
    ∙ ap (all test) (sym (ap (λ (l : List ℕ). part a.count l (max_held * a.p)) (references_in_lem s) ∙ part_part a.count (max_held * max_held) s references_at (max_held * a.p) (omega arith) (omega arith)))
