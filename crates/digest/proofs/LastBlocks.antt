-- Laws of the padded message and of its blocks: how long the last blocks are, how a buffer of zeros is filled with them, and where each
-- block stands in the message and in the last blocks.
use Rattle.std.proofs.Common.{◌≡◌, ℕ, suc, ◌+◌, ◌-◌, ◌*◌, ◌/◌, ◌%◌, ◌^◌, ◌<◌, ◌≤◌, List, [], ◌∷◌, ◌++◌, length, take, drop, replicate, sym, ap, ◌∙◌, append_assoc, arith, length-append, length-drop, take_all, take-take, drop-drop, take_at}
use lib.ListN.{length-replicate}
use Rattle.std.proofs.lemmas.List.{drop-replicate, take-replicate}
use lib.Seq.{take-append-le, drop-append-le, take-append-add}
use Rattle.base.specs.Bytes.{bytes, put_at}
use Rattle.digest.specs.Preprocessing.{zero_bits, padding, padded, last_blocks, block}

-- the definition's k solves the standard's equation, and no smaller number does
pub zero_bits_solve : (l : ℕ) → (l + 1 + zero_bits l) % 512 ≡ 448
zero_bits_solve l = omega arith

pub zero_bits_least : (l k : ℕ) → (l + 1 + k) % 512 ≡ 448 → zero_bits l ≤ k
zero_bits_least l k h = omega arith

-- a number's last eight bytes are those of the number modulo 2 ^ 64
pub bytes_mod : (x : ℕ) → bytes 8 (x % 2 ^ 64) ≡ bytes 8 x
unfolding bytes
bytes_mod x =
    let e7 : x % 2 ^ 64 / 256 / 256 / 256 / 256 / 256 / 256 / 256 % 256 ≡ x / 256 / 256 / 256 / 256 / 256 / 256 / 256 % 256 = omega arith in
    let e6 : x % 2 ^ 64 / 256 / 256 / 256 / 256 / 256 / 256 % 256 ≡ x / 256 / 256 / 256 / 256 / 256 / 256 % 256 = omega arith in
    let e5 : x % 2 ^ 64 / 256 / 256 / 256 / 256 / 256 % 256 ≡ x / 256 / 256 / 256 / 256 / 256 % 256 = omega arith in
    let e4 : x % 2 ^ 64 / 256 / 256 / 256 / 256 % 256 ≡ x / 256 / 256 / 256 / 256 % 256 = omega arith in
    let e3 : x % 2 ^ 64 / 256 / 256 / 256 % 256 ≡ x / 256 / 256 / 256 % 256 = omega arith in
    let e2 : x % 2 ^ 64 / 256 / 256 % 256 ≡ x / 256 / 256 % 256 = omega arith in
    let e1 : x % 2 ^ 64 / 256 % 256 ≡ x / 256 % 256 = omega arith in
    let e0 : x % 2 ^ 64 % 256 ≡ x % 256 = omega arith in
    λ i. e7 i ∷ e6 i ∷ e5 i ∷ e4 i ∷ e3 i ∷ e2 i ∷ e1 i ∷ e0 i ∷ []

module _ (m : List ℕ) where
  -- the bytes behind the message's whole blocks
  abbrev pub rest : List ℕ
  rest = drop (64 * (length m / 64)) m

  pub rest_length : length rest ≡ length m % 64
  rest_length = simp length-drop (omega arith)

  -- the same as a part of the message from there to its end
  pub rest_part : take (length m - 64 * (length m / 64)) rest ≡ rest
  rest_part = take_all (length m - 64 * (length m / 64)) rest (simp length-drop (omega arith))

  pub last_split : last_blocks m ≡ rest ++ padding (8 * length m)
  unfolding last_blocks padded
  last_split = drop-append-le (64 * (length m / 64)) m (padding (8 * length m)) (omega arith)

  pub padding_length : length (padding (8 * length m)) ≡ 1 + zero_bits (8 * length m) / 8 + 8
  unfolding padding bytes
  padding_length =
      let e = length-append (replicate {A = ℕ} (zero_bits (8 * length m) / 8) 0) (bytes 8 (8 * length m)) in
      let f = length-replicate {A = ℕ} (zero_bits (8 * length m) / 8) 0 in
      omega arith

  pub last_length : length (last_blocks m) ≡ length m % 64 + 1 + zero_bits (8 * length m) / 8 + 8
  last_length =
      let e = ap length last_split ∙ length-append rest (padding (8 * length m)) in
      let f = rest_length in
      let g = padding_length in
      omega arith

  -- the length's eight bytes fit into the last block, or need one more
  pub one_last : length m % 64 < 56 → length (last_blocks m) ≡ 64
  one_last h = let e = last_length in omega arith

  pub two_last : 56 ≤ length m % 64 → length (last_blocks m) ≡ 128
  two_last h = let e = last_length in omega arith

  -- where a whole block stands
  pub whole_block : (i : ℕ) → 64 * i + 64 ≤ length m → take 64 (drop (64 * i) m) ≡ block (padded m) i
  unfolding padded
  whole_block i h =
      let p = padding (8 * length m) in
      let l : 64 ≤ length (drop (64 * i) m) = simp length-drop (omega arith) in
      sym (take-append-le 64 (drop (64 * i) m) p l) ∙ sym (ap (take 64) (drop-append-le (64 * i) m p (omega arith)))

  -- where the last blocks stand, in a list that begins with them
  module _ (l : List ℕ) (e : take (length (last_blocks m)) l ≡ last_blocks m) where
    pub first_last : 64 ≤ length (last_blocks m) → take 64 l ≡ block (padded m) (length m / 64)
    unfolding last_blocks
    first_last h = sym (take-take 64 (length (last_blocks m)) l h) ∙ ap (take 64) e

    pub second_last : length (last_blocks m) ≡ 128 → length l ≡ 128 → take 64 (drop 64 l) ≡ block (padded m) (suc (length m / 64))
    unfolding last_blocks
    second_last h k =
        let all : l ≡ last_blocks m = sym (take_all (length (last_blocks m)) l (omega arith)) ∙ e in
        let n : 64 * (length m / 64) + 64 ≡ 64 * suc (length m / 64) = omega arith in
        ap (λ (x : List ℕ). take 64 (drop 64 x)) all
        ∙ ap (take 64) (drop-drop 64 (64 * (length m / 64)) (padded m) ∙ ap (λ (k : ℕ). drop k (padded m)) n)

  -- how many blocks there are
  pub block_count : length (padded m) / 64 ≡ length m / 64 + length (last_blocks m) / 64
  unfolding padded
  block_count =
      let e = length-append m (padding (8 * length m)) in
      let f = padding_length in
      let g = last_length in
      omega arith

-- a part of a list of equal elements
pub part_replicate : (j k n x : ℕ) → j + k ≤ n → take k (drop j (replicate n x)) ≡ replicate k x
part_replicate j k n x h = ap (take k) (drop-replicate j n x) ∙ take-replicate k (n - j) x (omega arith)

-- a buffer of zeros that begins with t and the byte 128, with v put in at `at` behind them
pub filled : (t v : List ℕ) (at : ℕ) → length t < at → at + length v ≤ 128
    → take (at + length v) (put_at ((t ++ (128 ∷ [])) ++ drop (length (t ++ (128 ∷ []))) (replicate 128 0)) at v) ≡ t ++ (128 ∷ (replicate (at - (length t + 1)) 0 ++ v))
filled t v at h k =
    let p = t ++ (128 ∷ []) in
    let z = drop (length p) (replicate {A = ℕ} 128 0) in
    let gap = at - (length t + 1) in
    let lp : length p ≡ length t + 1 = length-append t (128 ∷ []) in
    let front : take at (p ++ z) ≡ p ++ replicate gap 0 =
    ap (λ (i : ℕ). take i (p ++ z)) (let e : at ≡ length p + gap = omega arith in e) ∙ take-append-add p z gap
    ∙ ap (λ (l : List ℕ). p ++ l) (part_replicate (length p) gap 128 0 (omega arith))
    in
    let lf : length (p ++ replicate gap 0) ≡ at = length-append p (replicate gap 0) ∙ ap (λ (i : ℕ). length p + i) (length-replicate {A = ℕ} gap 0) ∙ omega arith in
    let lv : length ((p ++ replicate gap 0) ++ v) ≡ at + length v = length-append (p ++ replicate gap 0) v ∙ ap (λ (i : ℕ). i + length v) lf in
    ap (λ (l : List ℕ). take (at + length v) (l ++ v ++ drop (at + length v) (p ++ z))) front
    ∙ take_at ((p ++ replicate gap 0) ++ v) (drop (at + length v) (p ++ z)) (at + length v) lv
    ∙ simp append_assoc
