-- The starred cases of document 01 hold
pub mod Cases
-- Why what is said of the November text asks that no two different messages have one id
pub mod Colliding
