pub mod FromEvents
pub mod NeverSmall
pub mod TooMany
