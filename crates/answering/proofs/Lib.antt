-- A reply that was formed, and what follows on it
pub mod Replying
