pub mod Facts
pub mod Fetching
pub mod Fields
pub mod Joining
pub mod Sending
