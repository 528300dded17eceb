-- What is asked where a message is put behind the others
pub mod Storing
-- A reply as code carries it
pub mod Replying
