-- What each call answers that may be turned down
pub mod Answers
-- What the call for a digest answers and writes
pub mod Digest
-- What the call for a graph file answers
pub mod Graph
-- What the calls for messages answer and write
pub mod Message
