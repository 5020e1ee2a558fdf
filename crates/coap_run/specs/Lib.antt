pub mod Run
pub mod RefusalNumbers
