-- The tests that the loops ask of each vote
pub mod Votes
-- What is asked of the round, its graph and its notes
pub mod Asking
