-- Histories that stand in the laws.
pub mod LawfulRun
pub mod FiveTimes
pub mod IsAcknowledged
