pub mod FairLoss
pub mod FairRuns
pub mod FiveCopies
pub mod LaterCopies
