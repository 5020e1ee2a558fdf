pub mod PairCalls
pub mod PairTexts
pub mod Statuses
