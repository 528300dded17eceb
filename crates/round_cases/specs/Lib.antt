-- The starred cases of document 01, one table
pub mod Cases
