-- Laws of the reply
pub mod Replying
-- A place pushed and put in
pub mod Pushed
