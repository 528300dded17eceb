-- Numbers below a bound
pub mod Bounds
-- The length of a reply is that of a message
pub mod Rounds
-- Calls on a round: what one that is turned down leaves, the order of an opening, what is 17
pub mod RoundCalls
-- Calls without a round: what one that is turned down leaves
pub mod PlainCalls
-- A round that was just opened can be laid out as bytes, and so can a round after a delivery
pub mod OpenedLaid
pub mod DeliveredLaid
-- The round in a buffer after an opening and after a delivery
pub mod Keeping
-- Lists of the C calls: what is seen of them is what the rules say
pub mod Lists
-- What the owner asked for, over the C calls
pub mod Demands
