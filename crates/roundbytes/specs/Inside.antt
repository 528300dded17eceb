-- What a write in place leaves as it was
pub mod Keeping
