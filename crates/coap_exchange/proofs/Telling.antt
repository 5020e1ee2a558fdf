pub mod FromServer
pub mod ResetsAreOfRequest
pub mod ResponsesMatch
pub mod FewTokenBytes
pub mod KindsAreTold
pub mod EmptyReplies
