pub mod Due
pub mod Moves
pub mod Quiet
pub mod Work
