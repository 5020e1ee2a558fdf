pub mod KeyCounts
pub mod KeyLists
pub mod KeyChanges
