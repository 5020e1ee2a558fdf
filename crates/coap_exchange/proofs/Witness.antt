pub mod Client
pub mod Server
