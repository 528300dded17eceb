use mathlib.Core.Path.{◌≡◌, ap, sym, ◌∙◌}
use Prim.Native.Nat.{ℕ, ◌≤◌, ◌-◌, ◌^◌, min}
use mathlib.Core.List.{List}
use mathlib.Core.Bool.{true, false}
use lib.Bits.{bit_or}
use lib.ListN.{length}
use lib.Pow.{pow_pos}
use Rattle.std.proofs.lemmas.Option.{unwrap_or-slice_get}
use Rattle.std.specs.Option.{unwrap_or}
use Rattle.base.specs.Tests.{any}
use Rattle.graph.specs.Inside.Asking.{within}
use Rattle.graph.proofs.Memory.{list_contained}
use Rattle.graph.specs.Limits.{max_acceptors, mask_bits}
use borrow.Author.Rules.{rules}
use Rattle.std.proofs.Common.{Option}
use Rattle.std.specs.List.{slice_get}
use Rattle.graphfile.specs.File.{last}
use Rattle.graphfile.proofs.Reader.{last_get, mask_order, mask_last}
use native.Mathlib.Omega.{arith}
use Rattle.graphfile.proofs.file.mask_answer.Goals as goal

-- all known acceptors, as a number
known_all : (n : ℕ) → n ≤ max_acceptors → 2 ^ min n mask_bits ≡ 2 ^ n
known_all n h = ap (λ (x : ℕ). 2 ^ x) (let e : min n mask_bits ≡ n = omega arith in e)

-- the last of the masks, or 0
previous_is : (l : List ℕ) (p : ℕ) (o q : Option ℕ) → p ≡ unwrap_or o 0 → o ≡ q → q ≡ slice_get l (length l - 1) → p ≡ last 0 l
previous_is l p o q e f h = e ∙ ap (λ (x : Option ℕ). unwrap_or x 0) (f ∙ h) ∙ unwrap_or-slice_get l (length l - 1) 0 ∙ sym (last_get l)

pub returns-then-m-previous : goal.returns-then-m-previous
returns-then-m-previous c =
    let a = c.args in
    let k = c.known-all.ensures in
    let p = known_all a.acceptors c.requires in
    let q = pow_pos a.acceptors in
    let e = previous_is a.earlier.now _ _ _ c.unwrap_or-previous.ensures c.copied.ensures c.last.ensures.value in
    sym (mask_order a.acceptors a.earlier.now a.m c.if-m-eq0.false (omega arith) (omega arith))

pub returns-then-some_within : goal.returns-then-some_within
returns-then-some_within c =
    let a = c.args in
    let k = c.known-all.ensures in
    let p = known_all a.acceptors c.requires in
    let q = pow_pos a.acceptors in
    let l = a.earlier.now in
    let e = previous_is l _ _ _ c.unwrap_or-previous.ensures c.copied.ensures c.last.ensures.value in
    let t = c.type_inv.earlier in
    sym (mask_last a.acceptors l a.m c.if-m-eq0.false (omega arith) (omega arith) true
    (sym (list_contained l a.acceptors a.m (λ i. search rules) c.ranges.m.fits) ∙ ap (λ (x : ℕ). any (within (bit_or a.m (4294967295 - x))) l) (sym k) ∙ sym c.some_within.ensures ∙ c.if-some_within.true))

pub returns : goal.returns
returns c =
    let a = c.args in
    let k = c.known-all.ensures in
    let p = known_all a.acceptors c.requires in
    let q = pow_pos a.acceptors in
    let l = a.earlier.now in
    let e = previous_is l _ _ _ c.unwrap_or-previous.ensures c.copied.ensures c.last.ensures.value in
    let t = c.type_inv.earlier in
    sym (mask_last a.acceptors l a.m c.if-m-eq0.false (omega arith) (omega arith) false
    (sym (list_contained l a.acceptors a.m (λ i. search rules) c.ranges.m.fits) ∙ ap (λ (x : ℕ). any (within (bit_or a.m (4294967295 - x))) l) (sym k) ∙ sym c.some_within.ensures ∙ c.if-some_within.false))
