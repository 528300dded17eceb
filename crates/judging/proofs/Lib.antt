-- The rows in their order
pub mod Ordered
-- An acceptor message that was read
pub mod Voting
