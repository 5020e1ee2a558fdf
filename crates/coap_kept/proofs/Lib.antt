pub mod Dropped
pub mod Facts
pub mod GoingOn
mod SilentOn
