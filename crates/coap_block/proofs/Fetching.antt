-- What a client fetches in blocks is whole, and never too long.
pub mod BodiesAreShort
pub mod PartsOfHistory
pub mod WholeByParts
