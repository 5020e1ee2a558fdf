-- All that the server serves and tells for the client is of the one observation. The argument:
--
-- The client takes on nothing else, so it sends the registration, and fetches for the rest of a value (SentForOne), all
-- for the observed path and under the token of the registration (AsksAlone). So what the server serves for the client
-- is that registration or such a fetch, and each notification to the client is of it (OfIt, NoticesToClient). The
-- client takes in each response under that token, while the observation goes on (TakenIn).
pub mod SentForOne
pub mod AsksAlone
pub mod NoticesToClient
pub mod OfIt
pub mod TakenIn
