pub mod AskableRequests
pub mod Happening
pub mod PassingLemmas
pub mod WorkFalls
