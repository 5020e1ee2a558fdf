-- The server ticks in time, and a turn of ticks leaves nothing to do. The argument:
--
-- A program ticks each 1,000 ms (TicksInTime), or sleeps while its end has nothing to do (KeepsUp): so less than 1,000
-- ms after each moment the server ticks, or nothing can be answered. The ticks of a turn go on until one does nothing
-- (TicksLeave), and what one of them answers goes out in a CON of its own (TicksAnswer). A record that goes on smoothly
-- was smooth before each of its events (NothingIsLeft).
pub mod TicksAnswer
pub mod KeepsUp
pub mod TicksInTime
pub mod TicksLeave
pub mod NothingIsLeft
