-- The run of a list of events, and what it tells.
pub mod Named
