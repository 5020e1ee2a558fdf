pub mod DelaysShown
pub mod Idle
pub mod Turned
pub mod WhenDue
pub mod Work
