-- Tests over lists: any, all, filter, the numbers below n
pub mod Tests
-- Sets of acceptors and of learners as the bits of a number
pub mod Sets
-- Big-endian numbers in lists of bytes, and a list with bytes put in
pub mod Bytes
-- Ballots: a round number and a value
pub mod Ballots
-- The refusals and their numbers
pub mod Refusals
