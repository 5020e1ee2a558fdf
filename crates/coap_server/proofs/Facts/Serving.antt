pub mod Brought
pub mod FoundReady
pub mod SameAsked
pub mod ServedNow
pub mod Waiting
