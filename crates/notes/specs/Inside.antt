-- The notes in two arrays
pub mod Layout
-- The places by their keys
pub mod Index
-- What is written into them
pub mod Writing
-- What is asked of a walk
pub mod Asking
