-- What an acceptor message that names a previous one is
pub mod Votes
