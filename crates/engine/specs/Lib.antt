-- What the calls on a round in a lent buffer answer and write
pub mod Calls
-- What only functions inside say to each other: no promise leans on it
pub mod Inside
