-- What is asked of the bytes that a round stands in
pub mod Standing
-- What an acceptor message refers to
pub mod Referring
-- Rows 14 to 16 as they are asked
pub mod Turning
