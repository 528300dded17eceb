-- The table of a round's first places
pub mod Records
-- What is noted of a held message and worked out for a new one, in the terms of the definitions
pub mod Notes
-- What is asked of the bytes of a round, of its graph and of its notes
pub mod Lent
