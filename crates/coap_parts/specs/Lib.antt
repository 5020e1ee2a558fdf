pub mod Handed
pub mod PartTrace
pub mod Promised
