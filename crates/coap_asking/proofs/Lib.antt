pub mod AskedTasks
pub mod LinkTexts
pub mod ObservedCalls
pub mod PolledCalls
pub mod ToldPings
pub mod WatchedCalls
