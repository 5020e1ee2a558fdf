pub mod Frames
pub mod Input
pub mod Numbers
pub mod Records
pub mod Waking
pub mod Whole
