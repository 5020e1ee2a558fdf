pub mod Kept
pub mod Recording
