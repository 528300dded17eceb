-- What the look-ups ask for and answer
pub mod Finding
-- What a round holds of an acceptor message whose ids were looked up
pub mod Votes
