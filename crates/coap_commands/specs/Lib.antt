pub mod PairTurns
pub mod Pairs
pub mod Printed
pub mod Statuses
