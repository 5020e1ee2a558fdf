pub mod AreOutstanding
pub mod SaidOnce
pub mod Unmatched
pub mod SaidWhereItEnds
pub mod HandsOrEnds
pub mod OneForAPeer
pub mod ResetFrees
