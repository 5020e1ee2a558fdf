mod Lists
mod Given
mod Lookups
mod Tied
mod Order
mod Sound
mod Moves
mod IdleMoves
mod HeldMoves
mod NamedNow
mod FirstNames
mod Histories
pub mod OrderOfIdle
