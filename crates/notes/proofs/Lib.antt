-- Where each column stands
pub mod Fields
-- The notes written in place
pub mod Lending
