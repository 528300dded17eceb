-- Ids, and when two are the same
pub mod Ids
-- Messages as trees: 1b, 2a, signers, Tran, B, V and Caught (report, definitions 4 to 11)
pub mod Message
-- Con, Buried, Con2as, fresh, quorum of a message and lrns (definitions 12 to 17)
pub mod Learners
-- The chain property and well-formed messages (definitions 18, 20 and 23)
pub mod WellFormed
-- When a ballot decides, and the report for a learner (definition 19)
pub mod Report
-- Tables of held messages: a record names its references by places; the message of a place
pub mod Table
-- What the definitions amount to, as statements: definitions 12 to 17 with no height, the message of a place, decisions, what the report says
pub mod Equations
-- The theorems, as statements: validity and agreement (theorems 21 and 22), and agreement between two tables
pub mod Theorems
-- How often an acceptor votes, as statements (section 3.7)
pub mod Votes
-- Caught of the text of 19 November 2024 (its definitions 8 and 12), and that both texts catch the same acceptors
pub mod November
-- What only functions inside say to each other: no promise leans on it
pub mod Inside
