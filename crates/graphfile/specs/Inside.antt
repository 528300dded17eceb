-- The steps of reading and writing a file
pub mod Steps
