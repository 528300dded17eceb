-- The order of rows 8 to 16
pub mod Rows
