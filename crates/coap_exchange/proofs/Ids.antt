pub mod ClientIds
pub mod ClientIsFree
pub mod CountsOfFew
pub mod FewGive
pub mod ServerIds
pub mod ServerIsFree
