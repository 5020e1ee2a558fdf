pub mod Stands
pub mod CopiesInTime
pub mod FewArrive
pub mod FewHeard
pub mod YoungCalls
