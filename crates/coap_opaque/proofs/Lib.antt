pub mod Renaming
pub mod Runs
pub mod Silence
