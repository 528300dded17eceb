-- The numbers of the graph file
pub mod Limits
-- The learner graph as lists of masks: quorum, safe set, valid, condensed
pub mod LearnerGraph
-- What a check answers
pub mod Answers
-- The graph in memory
pub mod Memory
-- What valid and condensed mean
pub mod Theorems
-- What only functions inside say to each other: no promise leans on it
pub mod Inside
