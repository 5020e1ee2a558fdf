-- Runs of an end, call by call: what each call is handed, and what it answers.
pub mod OfClient
pub mod OfServer
