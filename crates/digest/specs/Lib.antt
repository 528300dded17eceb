-- FIPS 180-4, section 2.2.2 (and 3.2): the operations on words of 32 bits
pub mod Operations
-- FIPS 180-4, section 4.1.2: the six functions
pub mod Functions
-- FIPS 180-4, section 4.2.2: the 64 constants
pub mod Constants
-- FIPS 180-4, section 5: padding, parsing, the initial hash value
pub mod Preprocessing
-- FIPS 180-4, section 6.2: the computation, and its result sha256
pub mod Sha256
