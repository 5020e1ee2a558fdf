pub mod Depths
pub mod Lines
