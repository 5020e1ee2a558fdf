pub mod Blocks
pub mod Bytes
pub mod Endpoints
pub mod FirstMoments
pub mod Paths
pub mod Traces
pub mod Uints
