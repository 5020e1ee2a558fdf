pub mod Asks
pub mod Freshness
pub mod JsonLines
pub mod Linked
pub mod Printed
pub mod Progress
pub mod Terms
