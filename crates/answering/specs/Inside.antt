-- What the steps of a delivery give
pub mod Giving
