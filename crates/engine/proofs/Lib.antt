-- What an opening answers and writes
pub mod Opening
-- A message that is refused or entered
pub mod Taking
-- A message that enters
pub mod Entering
-- The order of a delivery's checks
pub mod Delivering
-- The bytes of a round after a call
pub mod InBuffer
-- The notes of a round that holds one message more
pub mod Keeping
-- The report in two cases
pub mod Reporting
