-- The two peaks answer Buried
pub mod Burying
