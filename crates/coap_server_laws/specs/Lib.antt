pub mod ServerHolds
pub mod Follows
pub mod Examples
