-- Where each field of a round in bytes stands
pub mod Fields
-- How wide each field is
pub mod ByteWidths
-- A round written reads back, and bytes read are written back
pub mod RoundBytes
-- The bytes of a round that holds no message
pub mod Empty
-- A round read in bytes is as its types have it
pub mod Typing
-- A round's bytes written in place
pub mod InPlace
