-- What is asked where the lists of a graph are counted
pub mod Counting
