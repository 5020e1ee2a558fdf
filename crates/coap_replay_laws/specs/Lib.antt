pub mod Leading
pub mod Silence
