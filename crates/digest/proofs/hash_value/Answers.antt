use Rattle.std.proofs.Common.{◌≡◌, ℕ, suc, ◌/◌, length, sym, ap, ◌∙◌, ap₂, arith, rules}
use Rattle.digest.specs.Preprocessing.{padded, last_blocks}
use Rattle.digest.specs.Sha256.{compressed, hash}
use Rattle.digest.proofs.LastBlocks as laws
use Rattle.digest.proofs.hash_value.Goals as goal

-- The last blocks, of which there are one or two, are the padded message's last ones.
pub returns-then-last_size-eq64 : goal.returns-then-last_size-eq64
unfolding hash
returns-then-last_size-eq64 c =
    let m = c.args.message.now in
    let last = c.last_blocks-last in
    let size = c.last_size.ensures in
    let count = laws.block_count m in
    let n : length (padded m) / 64 ≡ suc (length m / 64) = omega arith in
    c.compress-next.ensures ∙ ap₂ compressed c.after_whole_blocks-whole.ensures (laws.first_last m last.result last.ensures (omega arith))
    ∙ sym (ap (λ (k : ℕ). hash k (padded m)) n)

pub returns : goal.returns
unfolding hash
returns c =
    let m = c.args.message.now in
    let last = c.last_blocks-last in
    let size = c.last_size.ensures in
    let count = laws.block_count m in
    let long : length (last_blocks m) ≡ 128 = omega (arith, laws.last_length m) in
    let n : length (padded m) / 64 ≡ suc (suc (length m / 64)) = omega arith in
    let first = c.compress-next.ensures ∙ ap₂ compressed c.after_whole_blocks-whole.ensures (laws.first_last m last.result last.ensures (omega arith)) in
    c.compress.ensures ∙ ap₂ compressed first (laws.second_last m last.result last.ensures long (search rules))
    ∙ sym (ap (λ (k : ℕ). hash k (padded m)) n)
