pub mod Observation
pub mod ObserverTold
pub mod Upload
