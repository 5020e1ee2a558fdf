-- What a history and a state are with other endpoints in the place of theirs: those of a message layer, of exchanges,
-- of a client and of a server.
pub mod Endpoints
pub mod OfClient
pub mod OfExchanges
pub mod OfLayer
pub mod OfServer
