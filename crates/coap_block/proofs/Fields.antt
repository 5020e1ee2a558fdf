-- What an assembly does to its fields, it does to its state.
pub mod FoundByKey
pub mod PartialsOfPeers
pub mod PartialsSeen
pub mod StepOfState
