-- Document 01, "Messages": the places and lengths of a message's fields, counted in bytes. A new field or another version is a change here.
use Rattle.std.specs.Prelude.{Bool, true, ℕ, ◌+◌, ◌*◌}
use Rattle.base.specs.Tests.{pick}

-- Two bytes: count of the bytes after them.
abbrev pub outer_len : ℕ
outer_len = 2

-- Version 1.
abbrev pub version_at : ℕ
version_at = 2

abbrev pub version : ℕ
version = 1

-- Kind: 1 proposal, 2 acceptor message.
abbrev pub kind_at : ℕ
kind_at = 3

abbrev pub proposal_kind : ℕ
proposal_kind = 1

abbrev pub acceptor_kind : ℕ
acceptor_kind = 2

-- House, two bytes. Bay, two bytes. Signer, one byte.
abbrev pub house_at : ℕ
house_at = 4

abbrev pub bay_at : ℕ
bay_at = 6

abbrev pub signer_at : ℕ
signer_at = 8

-- A proposal then has an eight-byte ballot. It is 17 bytes long.
abbrev pub ballot_at : ℕ
ballot_at = 9

abbrev pub proposal_len : ℕ
proposal_len = 17

-- An acceptor message has a marker (0 no previous message, 1 one),
abbrev pub marker_at : ℕ
marker_at = 9

abbrev pub marker : Bool → ℕ
marker previous = pick previous 1 0

-- a 32-byte previous id if 1,
abbrev pub previous_at : ℕ
previous_at = 10

abbrev pub id_len : ℕ
id_len = 32

-- one byte counting references, 1 to 128,
abbrev pub count_at : Bool → ℕ
count_at previous = 10 + pick previous id_len 0

abbrev pub most_references : ℕ
most_references = 128

-- and that many 32-byte ids.
abbrev pub references_at : Bool → ℕ
references_at previous = count_at previous + 1

-- The length is 11 + 32n or 43 + 32n bytes,
abbrev pub acceptor_len : Bool → ℕ → ℕ
acceptor_len previous n = references_at previous + id_len * n

-- at most 4,139.
abbrev pub most_bytes : ℕ
most_bytes = acceptor_len true most_references
