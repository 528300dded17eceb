-- Laws of the tests over lists
pub mod Tests
-- Laws of single bits, over any width
pub mod Bits
-- Laws of sets as masks
pub mod Sets
-- Laws of big-endian numbers and of writing into a buffer
pub mod Bytes
-- Laws of lists cut into parts
pub mod Cuts
-- The number that no row has
pub mod Refusals
