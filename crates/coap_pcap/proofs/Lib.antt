pub mod Again
pub mod Readings
pub mod Steps
pub mod Sums
