-- The places that a report asks
pub mod Voters
-- The report from the notes
pub mod Verdicts
