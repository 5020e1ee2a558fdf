-- At any time.
pub mod Located
pub mod OnceDone
