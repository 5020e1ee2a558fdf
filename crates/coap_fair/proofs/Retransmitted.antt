pub mod Five
pub mod Over
pub mod Replayed
pub mod TakenSoon
