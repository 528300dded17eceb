-- The numbers that a round is built with.
use Rattle.std.specs.Prelude.{Bool, ◌||◌, ℕ, eqb, ltb}
use Rattle.message.specs.Layout.{most_bytes}

-- "It holds up to 128 messages."
abbrev pub max_held : ℕ
max_held = 128

-- "for an acceptor 127": it keeps a place for its reply
abbrev pub acceptor_room : ℕ
acceptor_room = 127

-- A place is below 128; this stands for none.
abbrev pub no_place : ℕ
no_place = 255

-- "an acceptor number or none (listening only)": this alone stands for none.
abbrev pub listening : ℕ
listening = 256

-- "own acceptor number not in the graph" is 17: it is none, or one of so many acceptors. So a number above 256 is in no graph.
abbrev pub own_allowed : ℕ → ℕ → Bool
own_allowed own acceptors = eqb own listening || ltb own acceptors

-- "reply buffer under 4,139 bytes": as long as the longest message
abbrev pub reply_len : ℕ
reply_len = most_bytes
