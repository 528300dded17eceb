-- The numbers of document 01, "The graph file", each named once.
use Rattle.std.specs.Prelude.{ℕ}

-- "Version 1."
abbrev pub version : ℕ
version = 1

-- "Acceptors n, 1 to 16. Learners l, 1 to 8."
abbrev pub max_acceptors : ℕ
max_acceptors = 16

abbrev pub max_learners : ℕ
max_learners = 8

-- "count 1 to 8", "count 0 to 8"
abbrev pub max_masks : ℕ
max_masks = 8

-- "two-byte masks"
abbrev pub mask_bytes : ℕ
mask_bytes = 2

-- bits of a mask in memory, in which a mask of the file fits
abbrev pub mask_bits : ℕ
mask_bits = 32

-- Lists that a graph can have: one for each learner, and one for each of the 36 pairs a ≤ b.
abbrev pub lists : ℕ
lists = 44
