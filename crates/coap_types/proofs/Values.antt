pub mod UintsHaveOneSpelling
pub mod BlocksReadBack
