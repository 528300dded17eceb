use mathlib.Core.Path.{◌≡◌}
use mathlib.Core.Bool.{Bool}
use mathlib.Core.List.{List}
use Prim.Native.Nat.{ℕ, ◌+◌, ◌-◌, ◌*◌, ◌/◌, ◌≤◌}
use Rattle.base.specs.Bytes.{part}
use Rattle.message.specs.Layout.{id_len}
use Rattle.message.specs.Order.{before, word_len}
use Rattle.message.proofs.order.words_before.Given as goal

-- the comparison of what is left from i on
abbrev pub rest : List ℕ → ℕ → ℕ → ℕ → Bool
rest s a b i = before (part (id_len - i) s (a + i)) (part (id_len - i) s (b + i))

-- the first k words are the same, and what is left decides
abbrev pub invariant-loop-k : goal.invariant-loop-k
invariant-loop-k l = (l.k ≤ id_len / word_len) × (before (part id_len l.s l.a) (part id_len l.s l.b) ≡ rest l.s l.a l.b (word_len * l.k))
