-- Which events are legal.
pub mod NoneRuns
pub mod Legal
pub mod ComesTill
pub mod HoldsBack
-- Runs by two clocks, and how old a body may be.
pub mod PacedClocks
pub mod ClockTests
pub mod LastHeld
pub mod GrowsOld
pub mod HourAhead
pub mod PutsTwice
