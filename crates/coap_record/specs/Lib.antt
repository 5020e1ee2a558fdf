pub mod Events
pub mod Record
pub mod Legal
pub mod LegalEvents
pub mod Begins
