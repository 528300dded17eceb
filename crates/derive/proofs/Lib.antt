-- One place more, put down and filed
pub mod Extending
-- One more held message leaves the notes of those before it
pub mod Keeping
