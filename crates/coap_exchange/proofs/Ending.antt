pub mod LoneRequest
pub mod NoEarlier
pub mod RequestIsOutstanding
pub mod StillOutstanding
pub mod WhenDue
