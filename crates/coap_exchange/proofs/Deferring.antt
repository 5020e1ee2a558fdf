pub mod EarliestFirst
pub mod LongEnough
