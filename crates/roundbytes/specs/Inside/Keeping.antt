-- What a write in place leaves as it was.
use Rattle.std.specs.Prelude.{List, ◌≡◌, ℕ, length, drop}
use Rattle.roundbytes.specs.Layout.{round_len}

-- what stands behind a round's own bytes is as it was
abbrev pub Kept : List ℕ → List ℕ → Type 0
Kept before after = (length after ≡ length before) × (drop round_len after ≡ drop round_len before)
