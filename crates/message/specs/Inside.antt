-- Writing an acceptor message
pub mod Writing
