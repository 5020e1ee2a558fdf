-- A client comes to rest: the ticks of one moment end, and so do what is out and the reports (Ending). Where a tick
-- does nothing, Resting says what it waits for.
pub mod ComesToRest
pub mod Ending
pub mod Resting
