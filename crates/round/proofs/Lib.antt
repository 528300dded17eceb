-- ---- one delivery
-- The law of one delivery, as a statement
pub mod Step
-- Parts of lists, and lists with something put in
pub mod Parts
-- The place that an id names
pub mod Named
-- Row 17's tests of a round in words
pub mod Fitting
-- A record put behind the held ones
pub mod Holding
pub mod Growing
-- Marking a place as known, recent and last sent
pub mod Marking
-- The records of a round's table
pub mod Records
-- Ids in ascending order, one behind the other
pub mod Order
pub mod Joined
-- What an acceptor sends
pub mod Chosen
pub mod Written
pub mod Sending
-- What joins recent, and last sent in it
pub mod Recent
pub mod Answering
-- A message that no row turns down
pub mod Passing
pub mod Arriving
pub mod Accepting
pub mod Entering
-- The answers by their numbers
pub mod Answers
-- The law of one delivery
pub mod OneDelivery
-- Demand 1 on each delivery
pub mod OneCall
-- A round that was just opened
pub mod GraphFits
pub mod JustOpened
-- ---- lists of calls
-- The laws of single calls that lists of calls stand on
pub mod CallLaws
-- The place that an id names, on tables
pub mod Canonical
-- What calls keep true of a table and its known places
pub mod Kept
-- A record joins the table
pub mod Joining
-- Rounds reached by calls: the invariant, and how a round grows
pub mod Reached
-- The invariant along a list of calls, and the round of each report
pub mod Lists
-- Demand 3: the chain of replies; each written message names none or a written one
pub mod Chain
-- Last sent is in recent all along a list, so each reply refers to the message that it names; it is the own acceptor's; and recent holds no proposal
pub mod Chained
-- The known places of a round reached by calls; such a round passes 17; at all places, one id has one content
pub mod Known
-- What is read in the bytes of a record, and what a report says
pub mod Bytes
-- Theorem 21 over a list
pub mod Validity
-- An acceptor that is caught among accepted messages equivocates
pub mod Equivocation
-- Every report of a list is a report over messages known at its end
pub mod Reporting
-- What two lists accepted and wrote, in all
pub mod TwoLists
-- Demand 3: agreement over two lists
pub mod Agreement
-- Every held message of a round reached by calls is chained
pub mod HeldChained
-- So both texts catch the same acceptors, in one round and in two
pub mod November
-- How often our acceptor votes
pub mod Votes
-- The demands over lists of calls, with nothing left open
pub mod Demands
-- SHA-256 is an id rule
pub mod Sha256
-- ---- row 13, which was struck
-- A round that passes row 17 has an ordered table, and each acceptor message in it a reference
pub mod Tables
-- Row 13 applied to no message that came as far as it
pub mod Struck
-- ---- places in one byte
-- What row 17 says of places
pub mod OneByte
-- ---- the own number
-- One that the graph lacks is 17, unless it is 256
pub mod OwnNumber
-- ---- what the contract must shut out
-- A round that turns every message down
pub mod Admitted
-- A 16 with fewer held than row 16 names
pub mod Full
-- A delivery that stores nothing
pub mod Storing
-- What is accepted is held, and z is sent exactly where it is well-formed: no acceptor that is mute later
pub mod Forming
pub mod Answered
-- A report that is always undecided, an invented reply length
pub mod ShutOut
-- ---- every round that passes 17
-- It holds messages as trees, and its report says what document 01 says
pub mod Passed
