-- The observer is told what a path holds that has settled. The argument:
--
-- More than 2,000 ms after D, and at most 3,001, a tick leaves nobody who can be notified, or the server has nothing to
-- do (NobodyThen). By then nothing is due to the observer: it was told last what the path holds. Or a CON to it is
-- outstanding: that is at most 2,000 ms old, so it began after D, and told what the path holds (TickTells). What a call
-- tells, its path holds before and after that call (TellingHeld, ToldHeld).
pub mod NobodyThen
pub mod TickTells
pub mod TellingHeld
pub mod ToldHeld
