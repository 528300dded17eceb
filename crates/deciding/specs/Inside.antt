-- What the report asks of the notes
pub mod Deciding
-- What it asks of the bytes of a round, of its graph and of its notes
pub mod Asking
