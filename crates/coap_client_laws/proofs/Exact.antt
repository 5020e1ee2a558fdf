-- The law of a client leaves each call one answer: of two that it allows the parts are the same, one after the other.
pub mod Exactly
