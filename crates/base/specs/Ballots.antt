-- Ballots: "its upper 32 bits are the round number and its lower 32 bits the value".
use Rattle.std.specs.Prelude.{ℕ, ◌+◌, ◌*◌, ◌/◌, ◌%◌, ◌^◌}

abbrev pub ballot_of : ℕ → ℕ → ℕ
ballot_of round value = round * 2 ^ 32 + value

abbrev pub round_of : ℕ → ℕ
round_of ballot = ballot / 2 ^ 32

unfoldable pub value_of : ℕ → ℕ
value_of ballot = ballot % 2 ^ 32
