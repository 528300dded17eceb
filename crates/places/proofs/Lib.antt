-- Sets as bits: a bit tested, put in, joined; two sets that meet
pub mod Membership
-- A walk over a set of places, lowest first
pub mod Walks
-- What one more turn of a loop adds
pub mod Loops
-- Sets of places by a key
pub mod Indexing
-- Loops over the places of a set
pub mod Going
