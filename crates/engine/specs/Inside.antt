-- A message that is taken and enters
pub mod Entering
