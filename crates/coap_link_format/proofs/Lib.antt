pub mod Walks
pub mod Complete
pub mod Sound
pub mod Lists
