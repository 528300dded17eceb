use Rattle.std.proofs.Common.{◌≡◌, ℕ, ◌+◌, ◌-◌, ◌*◌, ◌/◌, List, [], ◌∷◌, ◌++◌, length, take, drop, replicate, sym, refl, ap, ◌∙◌, ap₂, arith}
use Rattle.base.specs.Bytes.{bytes, put_at}
use Rattle.base.proofs.Bytes.{more}
use Rattle.digest.specs.Preprocessing.{zero_bits, padding, last_blocks}
use Rattle.digest.proofs.LastBlocks as laws
use Rattle.digest.proofs.padding.last_blocks.Goals as goal

pub overflow_sub-size : goal.overflow_sub-size
overflow_sub-size c = let e = laws.last_length c.args.message.now in let f = c.last_size-size.ensures in omega arith

pub put64-requires : goal.put64-requires
put64-requires c = let e = laws.last_length c.args.message.now in let f = c.last_size-size.ensures in omega arith

-- The buffer of zeros is written three times: the rest of the message, the byte 128, the length. What stands between them is the padding's zeros.
pub returns : goal.returns
unfolding bytes padding
returns c =
    let m = c.args.message.now in
    let t = laws.rest m in
    let zeros : List ℕ = replicate 128 0 in
    let l₁ = c.put_all.new.buf in
    let l₂ = c.put8.new.buf in
    let l₃ = c.put64.new.buf in
    let v = bytes 8 (8 * length m) in
    let at = c.last_size-size.result - 8 in
    let e₁ : l₁ ≡ t ++ drop (length t) zeros = more [] t zeros zeros l₁ refl (c.put_all.ensures ∙ ap (put_at zeros 0) (laws.rest_part m)) in
    let e₂ : l₂ ≡ (t ++ (128 ∷ [])) ++ drop (length (t ++ (128 ∷ []))) zeros = more t (128 ∷ []) zeros l₁ l₂ e₁ (c.put8.ensures ∙ ap (λ (k : ℕ). put_at l₁ k (128 ∷ [])) (sym (laws.rest_length m))) in
    let n : length m * 8 ≡ 8 * length m = omega arith in
    let e₃ : l₃ ≡ put_at ((t ++ (128 ∷ [])) ++ drop (length (t ++ (128 ∷ []))) zeros) at v =
    c.put64.ensures ∙ ap₂ (λ (l w : List ℕ). put_at l at w) e₂ (laws.bytes_mod (length m * 8) ∙ ap (bytes 8) n)
    in
    let size = c.last_size-size.ensures in
    let long = laws.last_length m in
    let rest = laws.rest_length m in
    let end : length (last_blocks m) ≡ at + 8 = omega arith in
    let gap : at - (length t + 1) ≡ zero_bits (8 * length m) / 8 = omega arith in
    ap₂ (λ (k : ℕ) (l : List ℕ). take k l) end e₃ ∙ laws.filled t v at (omega arith) (omega arith)
    ∙ ap (λ (k : ℕ). t ++ (128 ∷ (replicate k 0 ++ v))) gap ∙ sym (laws.last_split m)
