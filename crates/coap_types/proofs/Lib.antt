pub mod Facts
pub mod Paths
pub mod Values
pub mod OneOptionOn
