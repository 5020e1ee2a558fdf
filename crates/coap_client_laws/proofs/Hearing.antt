-- What a client takes. It came from its server, in a message that its layer hands up in that very call (FromServer,
-- HandedUp, Noted). It answers the request that was sent last, once (HeardRuns, HeardOnce), or is noted under the token
-- of a live observation (NoticesHeard). And it is acknowledged (Acked).
pub mod Acked
pub mod FromServer
pub mod HandedUp
pub mod HeardOnce
pub mod HeardRuns
pub mod Noted
pub mod NotedAt
pub mod NoticesHeard
pub mod Types
pub mod RestsHere
