pub mod MarkedObservers
pub mod ObserverLists
pub mod ObserversWereMade
pub mod Outcomes
pub mod StoreChanges
pub mod StoreSteps
