-- Ids compared, and the places that they name
pub mod Finding
-- A start is what the rules say of an opening
pub mod Opening
-- The places of a vote, at the front of an array
pub mod Votes
