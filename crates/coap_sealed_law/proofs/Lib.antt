pub mod NoncesOnce
pub mod TwoLives
