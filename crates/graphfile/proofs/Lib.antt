-- The reader of graph files
pub mod Reader
-- The graph of a file and the graph in memory are the same
pub mod View
-- What holds of an accepted file
pub mod Accepted
-- The whole file, from the answers of the steps that read it
pub mod Files
-- Every listed quorum of an accepted file names an acceptor
pub mod Peopled
-- The writer of graph files
pub mod Putting
-- What is written is read back
pub mod ReadBack
