pub mod InFront
pub mod OneBehind
pub mod Onward
