-- The definitions at a place of a table
pub mod Places
