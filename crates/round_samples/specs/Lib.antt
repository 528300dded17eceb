-- What the bytes that the samples lay out mean
pub mod Papers
-- The calls as the samples make them
pub mod Calls
