pub mod Critical
pub mod Refusals
pub mod Standing
pub mod Written
