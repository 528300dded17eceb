-- The largest entry at some places
pub mod Highest
-- The names of the places, one after the other
pub mod Naming
