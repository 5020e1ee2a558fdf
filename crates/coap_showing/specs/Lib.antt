pub mod Captured
pub mod Colours
pub mod Drawn
pub mod Dumps
