pub mod Retransmitted
pub mod Runs
pub mod Requests
pub mod Answers
pub mod Young
pub mod Witness
