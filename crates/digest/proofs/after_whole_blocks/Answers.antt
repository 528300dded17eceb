use Rattle.std.proofs.Common.{◌≡◌, ℕ, suc, ◌+◌, ◌*◌, ◌≤◌, List, [], ◌∷◌, ◌++◌, length, take, drop, sym, ap, ap₂, ◌∙◌, add-one, arith, length-append, length-drop, take_at, drop_at, drop-drop, rules}
use Rattle.digest.specs.Preprocessing.{padded, block}
use Rattle.digest.specs.Sha256.{compressed, hash}
use Rattle.digest.proofs.LastBlocks as laws
use Rattle.digest.proofs.after_whole_blocks.Goals as goal

pub loop-block-init : goal.loop-block-init
unfolding hash
loop-block-init c = record { size = search rules; within = omega arith; rest = search rules; value = c.start-value.ensures }

-- b stands at the front of what is left behind i blocks
module _ (m b r : List ℕ) (i : ℕ) (e : drop (64 * i) m ≡ b ++ r) (l : length b ≡ 64) where
  fits : 64 * i + 64 ≤ length m
  fits = let f = sym (length-drop (64 * i) m) ∙ ap length e ∙ length-append b r in omega arith

  here : b ≡ block (padded m) i
  here = sym (ap (take 64) e ∙ take_at b r 64 l) ∙ laws.whole_block m i fits

  left : r ≡ drop (64 * suc i) m
  left = sym (ap (drop 64) e ∙ drop_at b r 64 l) ∙ drop-drop 64 (64 * i) m ∙ ap (λ (k : ℕ). drop k m) (let g : 64 * i + 64 ≡ 64 * suc i = omega arith in g)

pub loop-block-preserved : goal.loop-block-preserved
unfolding hash
loop-block-preserved c =
    let m = c.args.message.now in
    let l = c.loop-block in
    let i = length l.yielded in
    let s = c.in-Some.ensures.steps in
    let more : length (l.yielded ++ c.in-Some.block ∷ []) ≡ suc i = length-append l.yielded (c.in-Some.block ∷ []) ∙ add-one i in
    let b = c.in-Some.block.now in
    let r = c.next.new.self.rest.now in
    let e : drop (64 * i) m ≡ b ++ r = sym l.invariant.rest ∙ s.1.0 in
    let n : length b ≡ 64 = s.1.1 ∙ l.invariant.size in
    record {
      size = s.0 ∙ l.invariant.size;
      within = let k = fits m b r i e n in omega arith;
      rest = left m b r i e n ∙ ap (λ (k : ℕ). drop (64 * k) m) (sym more);
      value = c.compress-value.ensures ∙ ap₂ compressed l.invariant.value (here m b r i e n) ∙ ap (λ (k : ℕ). hash k (padded m)) (sym more);
    }
