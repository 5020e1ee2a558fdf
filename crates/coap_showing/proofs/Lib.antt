pub mod CapturedPackets
pub mod DumpedLines
pub mod ReadFiles
