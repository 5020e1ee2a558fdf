pub mod Facts
pub mod Calls
pub mod Exact
pub mod Places
pub mod Rest
