-- What is handed up, and remembered (RFC 7252, section 4.5).
pub mod HandedUpOnce
pub mod FewAreRemembered
pub mod HandedAsSpelled
pub mod EndsOfOutstanding
pub mod ResponsesAreSpelled
pub mod RoomWhenFewCome
pub mod AcksAreTaken
