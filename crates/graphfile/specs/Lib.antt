-- The graph file, read from a list of bytes
pub mod File
-- How its lists are held in memory
pub mod Arrays
-- The bytes of the file of a graph
pub mod Writer
-- What holds of an accepted file
pub mod Theorems
-- What only functions inside say to each other: no promise leans on it
pub mod Inside
