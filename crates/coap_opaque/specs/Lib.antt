pub mod Opaque
pub mod Renaming
pub mod Runs
pub mod Silent
