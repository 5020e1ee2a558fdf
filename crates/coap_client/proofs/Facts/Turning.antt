pub mod ExchangeCame
pub mod Leading
pub mod Moves
