use Rattle.std.proofs.Common.{◌≡◌, ℕ, suc, ◌+◌, ◌-◌, ◌<◌, ◌≤◌, List, [], ◌∷◌, ◌++◌, length, get_or, take, set, sym, ap, ◌∙◌, ap₂, add-one, arith, length-set, take_all, get_or-take, take-suc-set, rules}
use Rattle.digest.specs.Operations.{◌⊞◌}
use Rattle.digest.specs.Functions.{σ0, σ1}
use Rattle.digest.specs.Preprocessing.{words}
use Rattle.digest.specs.Sha256.{next_word, extended, schedule}
use Rattle.digest.proofs.block.schedule_of.Goals as goal

pub loop-u-init : goal.loop-u-init
unfolding extended
loop-u-init c = (omega arith, (omega arith, (search rules, c.block_words-w.ensures)))

pub loop-u-preserved : goal.loop-u-preserved
unfolding extended next_word
loop-u-preserved c =
    let l = c.loop-u in
    let p = words 16 c.args.block.now in
    let g = extended (l.u - 16) p in
    let low : 16 ≤ l.u = l.invariant.0 in
    let high : l.u < 64 = c.loop-u-test.true in
    let size : length l.w ≡ 64 = l.invariant.1.1.0 in
    let e : take l.u l.w ≡ g = l.invariant.1.1.1 in
    let back : (j : ℕ) → 0 < j → j ≤ 16 → get_or l.w (l.u - j) 0 ≡ get_or g (l.u - j) 0 =
    λ j h k. sym (get_or-take l.u l.w (l.u - j) 0 (omega arith)) ∙ ap (λ (y : List ℕ). get_or y (l.u - j) 0) e
    in
    let back2 = back 2 (omega arith) (omega arith) in
    let back7 = back 7 (omega arith) (omega arith) in
    let back15 = back 15 (omega arith) (omega arith) in
    let back16 = back 16 (omega arith) (omega arith) in
    let x = c.small_sigma1.result ⊞ get_or l.w (l.u - 7) 0 ⊞ c.small_sigma0.result ⊞ get_or l.w (l.u - 16) 0 in
    let v : x ≡ next_word g l.u =
    ap₂ ◌⊞◌ (ap₂ ◌⊞◌ (ap₂ ◌⊞◌ (c.small_sigma1.ensures ∙ ap σ1 back2) back7) (c.small_sigma0.ensures ∙ ap σ0 back15)) back16
    in
    let m : 16 + (l.u - 16) ≡ l.u = omega arith in
    let n : l.u + 1 - 16 ≡ suc (l.u - 16) = omega arith in (
      omega arith,
      (
        omega arith,
        (
          length-set l.w l.u x ∙ size,
          ap (λ (k : ℕ). take k (set l.w l.u x)) (add-one l.u) ∙ take-suc-set l.w l.u x (omega arith)
              ∙ ap₂ (λ (q : List ℕ) (y : ℕ). q ++ (y ∷ [])) e (v ∙ ap (next_word g) (sym m)) ∙ sym (ap (λ (k : ℕ). extended k p) n),
        ),
      ),
    )

pub returns : goal.returns
unfolding schedule
returns c =
    let l = c.loop-u in
    let b = c.args.block.now in
    let e : l.u ≡ 64 = omega arith in
    sym (take_all 64 l.w (omega (arith, l.invariant.1.1.0))) ∙ ap (λ (n : ℕ). take n l.w) (sym e) ∙ l.invariant.1.1.1
    ∙ ap (λ (n : ℕ). extended (n - 16) (words 16 b)) e
