pub mod Facts
pub mod Calls
pub mod Holding
pub mod Rest
