-- Calls and registrations take their turns in the order of their numbers (RisingNumbers, InTurn), a fetch for an
-- observation before them (FetchesFirst). Of one call the requests go out one by one, each after the answer to the one
-- before (OneByOne).
pub mod FetchesFirst
pub mod RisingNumbers
pub mod InTurn
pub mod OneByOne
pub mod Queued
pub mod Taken
pub mod WaitingLists
pub mod Wanted
pub mod Closing
