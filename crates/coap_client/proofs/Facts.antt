pub mod EachCall
pub mod EachMove
pub mod Calls
pub mod Places
pub mod Turning
pub mod Uploading
