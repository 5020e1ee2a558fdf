pub mod IsRecognised
pub mod IsSaid
