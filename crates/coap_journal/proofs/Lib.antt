mod Appended
mod Beginnings
mod Bytes
mod Seals
mod Segments
mod OneReading
mod Written
pub mod CutAnywhere
pub mod Facts
mod FramesLeft
