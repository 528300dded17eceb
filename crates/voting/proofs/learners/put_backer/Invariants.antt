use mathlib.Core.Path.{◌≡◌}
use mathlib.Core.Bool.{◌&&◌, ◌||◌}
use Prim.Native.Nat.{ℕ, ◌≤◌, ◌<◌}
use lib.Dec.{eqb}
use lib.ListN.{length, get_or}
use Rattle.base.specs.Sets.{has}
use Rattle.graph.specs.Limits.{max_learners, mask_bits}
use Rattle.voting.proofs.learners.put_backer.Given as goal

-- the sets of the learners below a have the acceptor where they shall, and the others are as they were
abbrev pub invariant-loop-a : goal.invariant-loop-a
invariant-loop-a l = (l.a ≤ l.k) × ((length l.sets ≡ max_learners) × (((b : ℕ) → b < l.a → (q : ℕ) → q < mask_bits → has (get_or l.sets b 0) q ≡ ((has l.to b && eqb l.p q) || has (get_or l.initial.sets b 0) q)) × ((b : ℕ) → l.a ≤ b → get_or l.sets b 0 ≡ get_or l.initial.sets b 0)))
