pub mod NumberSteps
pub mod Once
pub mod PlaceDeeds
pub mod PlaceEffects
pub mod PlaceEvents
pub mod PlaceLemmas
