use Rattle.std.proofs.Common.{◌≡◌, ℕ, ◌+◌, ◌-◌, ◌*◌, ◌%◌, ◌^◌, ◌≤◌, ◌<◌, List, length, get_or, take, drop, sym, ap, ap₂, ◌∙◌, add-one, arith, length-take, length-drop, get_or-take, get_or-drop}
use lib.Bits.{bit_or}
use lib.Pow.{shl_exact}
use Rattle.base.specs.Bytes.{be, part, Octets}
use Rattle.base.proofs.Bits.{or_next}
use Rattle.base.proofs.Bytes.{be_below}
use Rattle.base.proofs.number_in.Goals as goal

-- byte i of the n from `at`, put below the number in those in front of it
next : (s : List ℕ) (at n i x b : ℕ) → Octets s → n ≤ 8 → i < n → x ≡ be i s at * 2 ^ (8 * (n - i)) → b ≡ get_or (part n s at) i 0
    → bit_or x (b * 2 ^ (8 * (n - 1 - i)) % 2 ^ 64) ≡ be (i + 1) s at * 2 ^ (8 * (n - (i + 1)))
unfolding be
next s at n i x b o h l e f =
    let k = 8 * (n - 1 - i) in
    let y = be i s at in
    let g : b ≡ get_or s (at + i) 0 = f ∙ get_or-take n (drop at s) i 0 l ∙ get_or-drop at s i 0 in
    let octet = o (at + i) in
    let above : 8 * (n - i) ≡ 8 + k = omega arith in
    let below : k ≡ 8 * (n - (i + 1)) = omega arith in
    ap₂ bit_or (e ∙ ap (λ (j : ℕ). y * 2 ^ j) above) (shl_exact 8 k 64 (omega arith) (omega arith)) ∙ or_next 8 k y b (omega arith)
    ∙ ap₂ (λ (c j : ℕ). (y * 256 + c) * 2 ^ j) g below ∙ sym (ap (λ (m : ℕ). be m s at * 2 ^ (8 * (n - (i + 1)))) (add-one i))

pub loop-i-init : goal.loop-i-init
unfolding be
loop-i-init c = record { so_far = omega arith; value = omega arith }

pub loop-i-preserved : goal.loop-i-preserved
loop-i-preserved c =
    let a = c.args in
    let l = c.loop-i in
    let n : a.at + a.n - a.at ≡ a.n = omega arith in
    let octets : Octets a.s.now = λ i. (c.type_inv.s i).fits in
    let more : l.i < a.n = let e = length-take (a.at + a.n - a.at) (drop a.at a.s.now) in omega arith in
    record {
      so_far = omega arith;
      value = next a.s.now a.at a.n l.i l.x c.from.result octets (omega arith) more l.invariant.value (c.from.ensures ∙ ap (λ (k : ℕ). get_or (part k a.s.now a.at) l.i 0) n);
    }

pub returns : goal.returns
returns c =
    let a = c.args in
    let l = c.loop-i in
    let octets : Octets a.s.now = λ i. (c.type_inv.s i).fits in
    let long : length (take (a.at + a.n - a.at) (drop a.at a.s.now)) ≡ a.n = simp (length-take, length-drop) (omega arith) in
    let all : l.i ≡ a.n = omega arith in
    let none : 8 * (a.n - l.i) ≡ 0 = omega arith in
    let value : l.x ≡ be a.n a.s.now a.at = l.invariant.value ∙ ap₂ (λ (m k : ℕ). be m a.s.now a.at * 2 ^ k) all none ∙ omega arith in
    (value, let below = be_below a.n a.s.now a.at octets in omega arith)
