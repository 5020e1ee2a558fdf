-- What becomes of an observation that runs alone in a smooth run: its last value is the current one. The argument, with
-- D the moment since which the path holds this, or that of the first value, whichever is later:
--
-- Each notification that was sent over 1,000 ms ago came within 1,000 ms, and is one of this observation
-- (Notifications, Requests). The client rejects none, so the server has the registration still (StillThere). Between D
-- + 2,001 and D + 3,001 ms the server ticks, or has nothing to do, and nobody is left who can be notified, as a Message
-- ID was free (Ticks/NobodyThen, MessageIds). So the observer was told last what the path holds, or a CON to it is
-- outstanding, which began after D and told that (Ticks/TickTells). It comes by D + 4,001 ms. It is taken, or not newer
-- than what was; values rise, so nothing older is taken after it (Values/TakenThen). So the newest that was taken shows
-- what the path holds, and is the last value (Values/LastIsCurrent).
pub mod StillThere
pub mod Requests
pub mod Notifications
pub mod MessageIds
pub mod Ticks
pub mod Values
