pub mod ClientExactly
pub mod ServerExactly
