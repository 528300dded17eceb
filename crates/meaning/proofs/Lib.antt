-- What a message reaches, its ballot, and whether it is a well-formed 1b
pub mod Reaching
-- What is worked out for a message is what the definitions say
pub mod Working
-- The notes of a table that grows
pub mod Growing
-- The places that are asked for a message
pub mod Walking
-- Names tell ids apart
pub mod Naming
-- One place more, over the records that a round holds
pub mod Passing
-- The places that fork with one before them
pub mod Marking
-- What row 17 leaves is what the pass asks
pub mod Giving
