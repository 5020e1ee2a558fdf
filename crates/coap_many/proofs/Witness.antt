-- Legal runs of several clients.
pub mod Turns
pub mod Legal
pub mod Paced
pub mod InRange
pub mod Cross
pub mod Behind
pub mod Lock
