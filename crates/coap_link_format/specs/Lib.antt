pub mod BadPlaces
pub mod LinkFormat
pub mod Places
