pub mod Asked
pub mod Carried
pub mod HandleValues
pub mod ReleasedValues
pub mod Walking
pub mod Named
