-- Each request that is handed up is served at most once (ServedOnce), as it was asked (ServedWasHandedUp, Reads). Each
-- method that has no fault is served, or waits where its path has a delay (MethodsServed, WaitsByDelay). The blocks
-- that are taken are those of its assembly (BlocksTaken).
pub mod BlocksTaken
pub mod HandedAtMost
pub mod HandedUpAsOften
pub mod MethodsServed
pub mod Reads
pub mod ServedOnce
pub mod ServedWasHandedUp
pub mod TimesHanded
pub mod WaitsByDelay
pub mod UnknownIsRefused
pub mod RefusedIsNotServed
