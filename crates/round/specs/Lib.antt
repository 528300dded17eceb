-- The numbers that a round is built with
pub mod Limits
-- A round
pub mod Round
-- What a round holds: the table of its messages, the known ones, the recent ones
pub mod Holdings
-- Row 17: what is asked of a round handed in
pub mod Handed
-- What the calls answer
pub mod Outcomes
-- Opening a round
pub mod Opening
-- Rows 8 to 16, and their order
pub mod Rows
-- What an acceptor sends
pub mod Reply
-- A delivery
pub mod Delivery
-- The report for a learner
pub mod Report
-- The number and the values of each answer
pub mod Answers
-- Lists of calls: what is accepted, written and reported in one
pub mod Lists
-- What the promises ask for
pub mod Premises
-- What the owner asked for, as propositions
pub mod Demands
-- Why row 13 could be struck, as propositions
pub mod FaultPage
-- What row 17 says of a round handed in, as propositions
pub mod Row17
-- That both texts of the report catch the same acceptors, as propositions
pub mod Neighbours
-- How often our acceptor votes, as a proposition
pub mod Votes
-- What the contract must shut out, as propositions
pub mod ShutOut
-- What holds of every round that passes 17, as propositions
pub mod Passed
