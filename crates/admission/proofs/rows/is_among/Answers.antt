use mathlib.Core.Bool.{Bool, ◌||◌}
use mathlib.Core.List.{List}
use mathlib.Core.Path.{◌≡◌, refl, ap, ◌∙◌}
use Prim.Native.Nat.{ℕ, zero, suc, ◌+◌, ◌*◌}
use native.Mathlib.Omega.{arith}
use Rattle.std.proofs.Common.{rules, tests}
use Rattle.std.proofs.lemmas.Iterator.{YieldsList-from_range}
use Rattle.std.proofs.lemmas.Iterator.Search.{any_from_yields_List}
use Rattle.std.specs.List.{list_any, range_with_len}
use Rattle.base.specs.Bytes.{part}
use Rattle.base.specs.Tests.{any}
use Rattle.message.specs.Layout.{id_len}
use Rattle.protocol.specs.Ids.{Id, same_id}
use Rattle.round.specs.Rows.{ids_from}
use Rattle.admission.proofs.rows.is_among.Goals as goal

-- a test of ids one behind the other, by their numbers
any_ids : (f : Id → Bool) (b : List ℕ) (at a n : ℕ) → list_any (λ i. f (part id_len b (at + id_len * i))) (range_with_len a n) ≡ any f (ids_from n b (at + id_len * a))
unfolding any ids_from
any_ids f b at a zero = refl
any_ids f b at a (suc n) =
    let e : at + id_len * (a + 1) ≡ at + id_len * a + id_len = omega arith in
    ap (λ (t : Bool). f (part id_len b (at + id_len * a)) || t) (any_ids f b at (a + 1) n ∙ ap (λ (k : ℕ). any f (ids_from n b k)) e)

pub returns : goal.returns
returns c =
    let a = c.args in
    let f = same_id (part id_len a.bytes.now a.at) in
    let test = λ (i : ℕ). f (part id_len a.bytes.now (a.first + id_len * i)) in
    let e : a.first + id_len * 0 ≡ a.first = omega arith in
    any_from_yields_List test _ _ _ c.any.ensures.ran (YieldsList-from_range 0 a.count a.count (cc) (omega arith)) (λ x b q w. search (rules, tests))
    ∙ any_ids f a.bytes.now a.first 0 a.count
    ∙ ap (λ (k : ℕ). any f (ids_from a.count a.bytes.now k)) e
