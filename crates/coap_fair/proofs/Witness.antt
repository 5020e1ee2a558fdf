pub mod FairTests
pub mod ThroughTests
pub mod FifthComes
