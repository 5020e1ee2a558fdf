-- At any time.
pub mod OfACall
