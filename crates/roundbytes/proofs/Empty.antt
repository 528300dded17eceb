-- The bytes of a round that holds no message: the graph's, those of the numbers, and zeros.
use mathlib.Core.Path.{◌≡◌, refl, sym, ap, ap₂, ◌∙◌}
use mathlib.Core.List.{List, ◌++◌, append_assoc}
use Prim.Native.Nat.{ℕ, zero, suc, ◌+◌, ◌-◌, ◌*◌, ◌≤◌}
use native.Mathlib.Nat.{zero-add}
use native.Mathlib.Omega.{arith}
use lib.ListN.{length, take, drop, replicate, length-replicate, replicate-append-replicate}
use lib.Seq.{drop-drop}
use Rattle.base.specs.Bytes.{bytes, part, put_at}
use Rattle.base.proofs.Bytes.{part_length, put_at_more}
use Rattle.graph.specs.declared.Graph.{Graph}
use Rattle.graph.specs.Limits.{lists, max_masks}
use Rattle.message.specs.Writer.{fronted}
use Rattle.round.specs.Opening.{empty_round}
use Rattle.roundbytes.specs.Layout.{house_at, ids_at, round_len, words, graph_bytes, number_bytes, round_bytes}
use Rattle.roundbytes.proofs.RoundBytes.{long, graph_long, numbers_long}
use Rattle.round.specs.Limits.{max_held}
use Rattle.message.specs.Layout.{id_len}

eight_zeros : bytes 8 0 ≡ replicate 8 0
unfolding bytes
eight_zeros = refl

words_zeros : (n : ℕ) → words 8 (replicate n 0) ≡ replicate (8 * n) 0
unfolding words
words_zeros zero = refl
words_zeros (suc n) =
    let e : 8 + 8 * n ≡ 8 * suc n = omega arith in
    ap₂ ◌++◌ eight_zeros (words_zeros n) ∙ replicate-append-replicate 8 (8 * n) 0 ∙ ap (λ (k : ℕ). replicate k 0) e

-- zeros behind zeros
more : (p q : List ℕ) (m n : ℕ) → q ≡ p ++ replicate m 0 → q ++ replicate n 0 ≡ p ++ replicate (m + n) 0
more p q m n e = ap (λ (x : List ℕ). x ++ replicate n 0) e ∙ append_assoc p (replicate m 0) (replicate n 0) ∙ ap (λ (x : List ℕ). p ++ x) (replicate-append-replicate m n 0)

-- the columns one behind the other
columns : (p w : List ℕ) (a b c d e f g h k : ℕ) → w ≡ replicate d 0
    → p ++ replicate a 0 ++ replicate b 0 ++ replicate c 0 ++ w ++ replicate e 0 ++ replicate f 0 ++ replicate g 0 ++ replicate h 0 ++ replicate k 0
    ≡ p ++ replicate (a + b + c + d + e + f + g + h + k) 0
columns p w a b c d e f g h k z =
    let ab = more p (p ++ replicate a 0) a b refl in
    let abc = more p _ (a + b) c ab in
    let abcd = ap (λ (x : List ℕ). p ++ replicate a 0 ++ replicate b 0 ++ replicate c 0 ++ x) z ∙ more p _ (a + b + c) d abc in
    let abcde = more p _ (a + b + c + d) e abcd in
    let abcdef = more p _ (a + b + c + d + e) f abcde in
    let abcdefg = more p _ (a + b + c + d + e + f) g abcdef in
    let abcdefgh = more p _ (a + b + c + d + e + f + g) h abcdefg in
    more p _ (a + b + c + d + e + f + g + h) k abcdefgh

empty_bytes : (g : Graph) (house bay own last : ℕ)
    → round_bytes (empty_round g house bay own last) ≡ graph_bytes g ++ number_bytes house bay own 0 last ++ replicate (round_len - ids_at) 0
empty_bytes g house bay own last = columns (graph_bytes g ++ number_bytes house bay own 0 last) (words 8 (replicate max_held 0)) (id_len * max_held) max_held max_held 1024 max_held max_held (max_held * max_held) max_held max_held (words_zeros max_held)

-- a part filled with zeros
pub zeros_put : (b z : List ℕ) (at n : ℕ) → at + n ≤ length b → z ≡ replicate (length (part n b at)) 0 → take at b ++ (z ++ drop n (drop at b)) ≡ put_at b at (replicate n 0)
zeros_put b z at n h e =
    ap (λ (x : List ℕ). take at b ++ (x ++ drop n (drop at b))) (e ∙ ap (λ (k : ℕ). replicate k 0) (part_length n b at h))
    ∙ sym (append_assoc (take at b) (replicate n 0) (drop n (drop at b)))
    ∙ ap (λ (x : List ℕ). take at b ++ replicate n 0 ++ x) (drop-drop n at b)
    ∙ ap (λ (k : ℕ). take at b ++ replicate n 0 ++ drop (at + k) b) (sym (length-replicate n 0))

-- the three parts that the writer puts in, one behind the other, are the round
pub empty_written : (g : Graph) (house bay own last : ℕ) (b m₁ m₂ m₃ : List ℕ) → length g.counts ≡ lists → length g.masks ≡ max_masks * lists
    → m₁ ≡ put_at b 0 (graph_bytes g) → m₂ ≡ put_at m₁ house_at (number_bytes house bay own 0 last) → m₃ ≡ put_at m₂ ids_at (replicate (round_len - ids_at) 0)
    → m₃ ≡ fronted (round_bytes (empty_round g house bay own last)) b
empty_written g house bay own last b m₁ m₂ m₃ h k e₁ e₂ e₃ =
    let x = graph_bytes g in
    let n = number_bytes house bay own 0 last in
    let z : List ℕ = replicate (round_len - ids_at) 0 in
    let lx = graph_long g h k in
    let ln = long x n house_at 8 lx (numbers_long house bay own 0 last) in
    let f₂ = put_at_more b m₁ m₂ x n 0 house_at (omega arith) (zero-add (length x) ∙ lx) e₁ e₂ in
    let f₃ = put_at_more b m₂ m₃ (x ++ n) z 0 ids_at (omega arith) (zero-add (length (x ++ n)) ∙ ln) f₂ e₃ in
    f₃ ∙ ap (λ (y : List ℕ). put_at b 0 y) (sym (empty_bytes g house bay own last))
    ∙ ap (λ (y : ℕ). round_bytes (empty_round g house bay own last) ++ drop y b) (zero-add (length (round_bytes (empty_round g house bay own last))))
