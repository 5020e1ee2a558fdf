pub mod Holds
pub mod Stamps
