pub mod Shown
pub mod ShownDatagrams
pub mod WrittenHex
pub mod WrittenOptions
pub mod WrittenPaths
pub mod WrittenSegments
