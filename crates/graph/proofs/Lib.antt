-- What the tests of the learner graph say
pub mod LearnerGraph
-- The graph in memory
pub mod Memory
-- What valid and condensed mean
pub mod Meaning
-- Graphs that say the same are valid, and condensed, alike
pub mod Same
-- What a chain answers
pub mod Chains
