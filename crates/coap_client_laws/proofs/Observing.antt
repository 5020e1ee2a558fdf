-- The observations of a client. Each has one token, that of its registration (OneToken, WatchedAs), and lives until it
-- is over (StaysLive, Ended). A notification that is taken answers the registration, or is newer than the newest before
-- (Notified, Marks), so values rise (Rising). A value is whole by its notification and what was fetched for it
-- (Values), and the last value is of the newest (LastValue).
pub mod AllOf
pub mod AreThere
pub mod Ascending
pub mod Ended
pub mod FetchesSince
pub mod FewObserved
pub mod KeptTokens
pub mod LastValue
pub mod Marks
pub mod NoneFetched
pub mod Noticed
pub mod Notified
pub mod ObservationSources
pub mod ObservationOrigins
pub mod OfObservations
pub mod OneToken
pub mod Rising
pub mod StaysLive
pub mod TokensKept
pub mod ValueParts
pub mod Values
pub mod WatchedAs
pub mod Registered
