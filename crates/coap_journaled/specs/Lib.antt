pub mod Due
pub mod Journal
pub mod Runs
pub mod Synced
