-- The table of the first places of a round, and what row 17 leaves of them.
use Rattle.std.specs.Prelude.{◌≡◌, ◌⊎◌, false, ℕ, ◌≤◌, ◌<◌, get_or}
use Rattle.base.specs.Tests.{◌∈◌}
use Rattle.protocol.specs.Table.{Table, tabulate}
use Rattle.round.specs.Round.{Round}
use Rattle.round.specs.Limits.{max_held, no_place}
use Rattle.round.specs.Holdings.{is_proposal_at, references_at, record_at}

-- the records of the first n places
abbrev pub table_to : Round → ℕ → Table
table_to r n = tabulate n (record_at r)

-- ---- what row 17 leaves: each previous place is none or held, and an acceptor message refers to earlier places, at most 128
pub record Fit (n : ℕ) (r : Round) : Type 0 where
  -- a round has the n places,
  pub held : n ≤ max_held
  -- each has no more references than there can be,
  pub count : (p : ℕ) → p < n → get_or r.counts p 0 ≤ max_held
  -- its previous place is none or one of them,
  pub named : (p : ℕ) → p < n → (get_or r.previous p 0 ≡ no_place) ⊎ (get_or r.previous p 0 < n)
  -- and an acceptor message refers to earlier ones
  pub back : (p : ℕ) → p < n → is_proposal_at r p ≡ false → (j : ℕ) → j ∈ references_at r p → j < p
