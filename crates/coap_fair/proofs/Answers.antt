pub mod NoReset
pub mod ByAnswers
pub mod AllSent
