-- Two ids are the same if they are equal
pub mod Ids
-- 1b, 2a, signers, and what Tran holds
pub mod Message
-- A message's ballot is the largest in its Tran
pub mod Ballot
-- Caught in words
pub mod Caught
-- The knot of lrns: its equation, with no height in sight
pub mod Knot
-- Con, Buried, Con2as, fresh, lrns in the words of document 01
pub mod Learners
-- The chain property and well-formed messages in words
pub mod WellFormed
-- When a ballot decides, in words; definition 19
pub mod Decides
-- The report by what it says: undecided, decided, split
pub mod Report
-- PrevTran of the November text, as a chain that can be followed down
pub mod PrevTran
-- Where two chains part, their signer is caught; the acceptor messages of an honest acceptor are in a line
pub mod Chain
-- How many elements of a list pass a test
pub mod Counting
-- How often an acceptor votes
pub mod Votes
-- Theorem 22, on trees
pub mod Agreement
-- Theorem 21
pub mod Validity
-- The message of a place, and: Tran of it is the messages of the places that it reaches
pub mod Table
-- A table that grows keeps its messages
pub mod Growth
-- What places of a chained set lead to
pub mod Reach
-- Equal ids give equal messages, and agreement between two tables
pub mod Tables
-- A test over Tran of a place is a loop over places
pub mod Loops
-- The definitions at a place: 1b, 2a, ballot, Caught, chain, well-formed 1b
pub mod Places
-- The definitions at a place: Buried, fresh, lrns, decisions and the report
pub mod PlacesLearners
-- A table that is written out meets the premises of agreement, and of the theorem on the November text, by tests
pub mod TableTests
-- A run that meets every premise of agreement
pub mod Run
-- A run with a forking acceptor, in which learners that are not entangled decide differently
pub mod ForkedRun
-- The misreadings that document 01 shuts out, each with a case in which it would answer otherwise
pub mod Misreadings
-- Which votes are repeated ones, and a line of votes that reaches the bounds
pub mod VoteCases
-- Both texts catch the same acceptors
pub mod November
-- A case of that; for each premise one in which the texts differ without it; and why it is taken over acceptor messages
pub mod NovemberCases
