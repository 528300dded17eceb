-- What the report asks of the notes, and the verdict that it answers
pub mod Deciding
