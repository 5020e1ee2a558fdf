-- Histories with their bytes: they stand in the law of a server, and what an observer is told is as computed.
pub mod IsNotified
pub mod IsTold
pub mod IsUploaded
