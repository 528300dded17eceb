-- Places and lengths of the fields
pub mod Layout
-- Ids that ascend as bytes
pub mod Order
-- What bytes say: the fields, or why they are turned down
pub mod Reader
-- The outcomes of reading, one by one
pub mod Outcomes
-- The bytes of given fields
pub mod Writer
-- What is promised beside the contracts
pub mod Demands
-- What only functions inside say to each other: no promise leans on it
pub mod Inside
