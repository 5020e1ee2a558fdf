pub mod AsTheirBytes
pub mod SegmentsAreShort
