use mathlib.Core.Path.{◌≡◌, sym, ap, ◌∙◌}
use Prim.Native.Nat.{◌+◌}
use borrow.Author.Count.{below_more}
use lib.ListN.{get_or}
use Rattle.places.specs.declared.Places.{Places}
use Rattle.places.specs.declared.Walk.{Walk}
use Rattle.places.proofs.Membership.{other}
use Rattle.places.proofs.Going.{of_round, gone_on, gone_over}
use Rattle.roundbytes.specs.Layout.{round_in}
use Rattle.notes.specs.Inside.Layout.{word_notes}
use Rattle.scan.proofs.Naming.{lent, passed}
use native.Mathlib.Omega.{arith}
use Rattle.scan.proofs.names.name_of.Goals as goal

pub overflow_mul-at : goal.overflow_mul-at
overflow_mul-at c = let h = of_round c.loop-i.i-iterator _ _ c.in-Some.ensures.steps in omega arith

pub overflow_add-at : goal.overflow_add-at
overflow_add-at c = let h = of_round c.loop-i.i-iterator _ _ c.in-Some.ensures.steps in omega arith

pub overflow_add-at-in-loop-i : goal.overflow_add-at-in-loop-i
overflow_add-at-in-loop-i c = let h = of_round c.loop-i.i-iterator _ _ c.in-Some.ensures.steps in omega arith

pub slice_bounds-same-end : goal.slice_bounds-same-end
slice_bounds-same-end c = let h = of_round c.loop-i.i-iterator _ _ c.in-Some.ensures.steps in let long = c.requires.0 in omega arith

pub returns-then-same : goal.returns-then-same
returns-then-same c =
    let a = c.args in
    let (b, gone, old) = c.loop-i.invariant in
    let i = c.in-Some.i in
    let steps = c.in-Some.ensures.steps in
    let it = c.into_iter-i-iterator.result in
    let set = ap (λ (w : Walk). w.rest) c.into_iter-i-iterator.ensures.into_iter_gives ∙ c.below-i-items.ensures.0 in
    let k = c.id_key.result in
    let x = word_notes a.notes.now.words in
    let sets : (it.rest.low ≡ get_or x.idlow k 0) × (it.rest.high ≡ get_or x.idhigh k 0) = (ap (λ (p : Places). p.low) set ∙ c.id_set.ensures.0, ap (λ (p : Places). p.high) set ∙ c.id_set.ensures.1) in
    let (by, less, on) = gone_on a.n it.rest.low it.rest.high b _ gone i _ steps in
    record {
      bound = omega arith;
      here = λ h. sym (lent a.s.now i (of_round c.loop-i.i-iterator i _ steps) c.requires.0) ∙ c.same.ensures.0 c.if-same.true;
      first = passed (round_in a.s.now) a.id.now a.n x k it.rest.low it.rest.high c.requires.1.indexed c.id_key.ensures sets b i by old;
    }

pub loop-i-preserved : goal.loop-i-preserved
loop-i-preserved c =
    let a = c.args in
    let (b, gone, old) = c.loop-i.invariant in
    let i = c.in-Some.i in
    let steps = c.in-Some.ensures.steps in
    let it = c.into_iter-i-iterator.result in
    let set = ap (λ (w : Walk). w.rest) c.into_iter-i-iterator.ensures.into_iter_gives ∙ c.below-i-items.ensures.0 in
    let k = c.id_key.result in
    let x = word_notes a.notes.now.words in
    let sets : (it.rest.low ≡ get_or x.idlow k 0) × (it.rest.high ≡ get_or x.idhigh k 0) = (ap (λ (p : Places). p.low) set ∙ c.id_set.ensures.0, ap (λ (p : Places). p.high) set ∙ c.id_set.ensures.1) in
    let (by, less, on) = gone_on a.n it.rest.low it.rest.high b _ gone i _ steps in
    let here = lent a.s.now i (of_round c.loop-i.i-iterator i _ steps) c.requires.0 in
    let before = passed (round_in a.s.now) a.id.now a.n x k it.rest.low it.rest.high c.requires.1.indexed c.id_key.ensures sets b i by old in
    (i + 1, on, below_more _ _ before (λ e. other (c.same.ensures.1 (here ∙ e)) c.if-same.false))

pub returns : goal.returns
returns c =
    let a = c.args in
    let (b, gone, old) = c.loop-i.invariant in
    let it = c.into_iter-i-iterator.result in
    let set = ap (λ (w : Walk). w.rest) c.into_iter-i-iterator.ensures.into_iter_gives ∙ c.below-i-items.ensures.0 in
    let k = c.id_key.result in
    let x = word_notes a.notes.now.words in
    let sets : (it.rest.low ≡ get_or x.idlow k 0) × (it.rest.high ≡ get_or x.idhigh k 0) = (ap (λ (p : Places). p.low) set ∙ c.id_set.ensures.0, ap (λ (p : Places). p.high) set ∙ c.id_set.ensures.1) in
    let by = gone_over a.n it.rest.low it.rest.high b _ gone c.in-None.ensures.steps.0 in
    record {
      bound = omega arith;
      here = λ h. absurd (omega arith);
      first = passed (round_in a.s.now) a.id.now a.n x k it.rest.low it.rest.high c.requires.1.indexed c.id_key.ensures sets b a.n by old;
    }
