-- What the C calls for a round kept in a lent buffer answer and write
pub mod Round
-- Lists of these calls: what is seen of them, and the bytes that they leave
pub mod Lists
-- What the owner asked for, over these calls
pub mod Demands
