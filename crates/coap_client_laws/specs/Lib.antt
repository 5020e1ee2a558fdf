pub mod ClientHolds
pub mod Follows
pub mod Examples
