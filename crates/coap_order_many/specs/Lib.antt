pub mod Agrees
pub mod Run
