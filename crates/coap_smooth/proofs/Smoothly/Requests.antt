-- The request of an exchange is sent, and answered at once or kept waiting. The argument, where nothing is observed:
--
-- Each request is sent under a token of its own (AllSent, PlainRequests), in a CON that begins with its exchange
-- (RequestOpen). The server that takes it answers in the acknowledgement, or acknowledges it by an Empty message and
-- lets it wait (RequestTaken, EmptyAck). An answer in the acknowledgement would have come within 2,000 ms, so the
-- request of an exchange that is open for longer waits still, or a tick answered it (AtOnce, WaitsNow). What waits is
-- of the exchange that is open, as each one before ended by an answer (OfOpen).
pub mod AllSent
pub mod AskedBefore
pub mod LastWasSent
pub mod PlainRequests
pub mod RequestOpen
pub mod RequestTaken
pub mod EmptyAck
pub mod AtOnce
pub mod WaitedBefore
pub mod WaitsNow
pub mod OfOpen
pub mod NoObservers
pub mod DelaysAreShort
