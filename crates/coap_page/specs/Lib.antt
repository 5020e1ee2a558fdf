pub mod Endings
pub mod Plains
pub mod Runs
pub mod Shows
