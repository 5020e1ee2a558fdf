pub mod CallsOfEnds
pub mod FewPlain
