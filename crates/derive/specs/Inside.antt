-- The notes of a round's places are right, all of them
pub mod Complete
