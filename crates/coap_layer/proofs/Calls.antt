-- What the calls' answers cite.
pub mod JudgedByTable
pub mod CallsAreSteps
pub mod Entries
pub mod Passed
pub mod Remembered
pub mod Outstanding
pub mod Places
pub mod Received
pub mod Sent
pub mod Sendings
pub mod Stored
pub mod TakenIn
pub mod Chained
pub mod OnPages
pub mod Loads
pub mod Foretold
