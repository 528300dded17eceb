-- What is asked of masks and of a graph in memory
pub mod Asking
