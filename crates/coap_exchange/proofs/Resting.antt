-- When a tick does nothing, and when it does something.
pub mod AtFirstMoments
pub mod ClientRests
pub mod ServerRests
