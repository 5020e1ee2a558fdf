-- Runs that are legal by two clocks. The argument:
--
-- It is that of Delivery, with a clock for each end: a moment is read on the clock of the end whose call it is. A
-- datagram is at most 100,000 ms old by its sender's clock, and neither clock gains more than 5,000 ms on the other
-- in 247,000 ms, so it is at most 105,000 ms old by the other's. All bounds of the message layer leave that margin
-- (docs/HEADLINE.md has them in a table), so the hops stand in the law of two layers with a clock each. A run by one
-- clock is the case in which both show the same (OneClock). What needs no bound at all is said of hops that come at
-- any time (AtAnyTime, CameAtAnyTime).
pub mod OneClock
pub mod GivenOutBefore
pub mod AfterATurn
pub mod ClientTurns
pub mod ServerTurns
pub mod HopsAreAChannel
pub mod AtAnyTime
pub mod CameAtAnyTime
