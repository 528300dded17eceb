-- What is left of the reader's checks once some have passed, and what has passed where fields were read
pub mod Checks
-- Ids that ascend
pub mod Ascent
-- Lengths of what is written
pub mod Encoding
-- The ids gathered from a table
pub mod Gathers
-- Reading is the inverse of writing
pub mod RoundTrip
-- Exactly one outcome of reading
pub mod OneOutcome
