-- What is asked of each place, and the names of the places
pub mod Arrays
