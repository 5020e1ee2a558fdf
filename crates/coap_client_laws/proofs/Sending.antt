-- What a client sends. Each request is asked for by an operation as it was taken (Asked, OfCalls), and begins one CON
-- (SendsBegin, Begun), under a token of its own, but for a cancel (Tokens). One exchange is open at a time: that of the
-- request that was sent last, for the operation that runs (SentFor, OpenSince). Where few exchanges end, each request
-- is sent (SentWhereFew).
pub mod ApartLists
pub mod Asked
pub mod Begun
pub mod CancelsTaken
pub mod ConsAreRequests
pub mod EndsInTime
pub mod ExchangeBegins
pub mod HeardOfOpen
pub mod LastCancels
pub mod Moments
pub mod NoNons
pub mod OfCalls
pub mod OneCon
pub mod OpenBeneath
pub mod OpenRuns
pub mod OpenSince
pub mod RegisteredOnce
pub mod RepliesToCons
pub mod SendingsOfACon
pub mod SendsBegin
pub mod SentFor
pub mod SentIn
pub mod SentWhereFew
pub mod StaysOpen
pub mod TokenOfBytes
pub mod LiveTokens
pub mod Tokens
