-- The layout of a round as bytes
pub mod Layout
-- How wide each field of it is
pub mod ByteWidths
-- A buffer after an opening
pub mod Opening
-- What only functions inside say to each other: no promise leans on it
pub mod Inside
