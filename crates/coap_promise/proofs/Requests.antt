-- From the server back to the call: whose request it is that is applied. The argument:
--
-- A request from the client's address was given out by the client at most 100,000 ms before (Delivery). It is a copy
-- of a Confirmable message that began at most 47,000 ms before that, so it is at most 147,000 ms old. The server
-- remembers a message for 247,000 ms, so it hands up no copy of it (Facts/Requests/HandedUpOnce), and serves it once.
-- Under its token the client sent one request, that of a call (Facts/Requests/OfACall), and the server reads it as
-- the client wrote it (Facts/Requests/ReadBack). A call has one request that the server applies, its last: so at most
-- one request is applied for a call (AtMostOnce). What is applied changes the path as the call asks, where its
-- preconditions hold (Alone, Conditions), and nothing but that and local changes changes what a path holds
-- (ChangesOwned).
pub mod LocalChanges
pub mod ChangesOwned
pub mod AtMostOnce
pub mod Conditions
pub mod Alone
pub mod ServedRight
