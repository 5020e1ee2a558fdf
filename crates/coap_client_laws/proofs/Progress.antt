-- A history of a client goes on with each call: whatever it is handed there is a lawful answer (GoesOn), since each
-- request that it sends can be written (RequestsSpelled).
pub mod ShortPaths
pub mod GoesOn
pub mod RequestsSpelled
pub mod Spelled
