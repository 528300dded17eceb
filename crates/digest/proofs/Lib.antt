-- Laws of the padded message and of its blocks
pub mod LastBlocks
-- Digests that the checker computes from the definition
pub mod Vectors
