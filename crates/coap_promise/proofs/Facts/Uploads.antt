pub mod BlockRead
pub mod NoneContinue
pub mod Pieces
