pub mod Numbers
pub mod Checksums
pub mod Packets
pub mod Links
pub mod Files
pub mod Written
