-- What only functions inside say to each other: no promise leans on it
pub mod Inside
