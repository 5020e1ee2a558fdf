pub mod OneOption
pub mod Datagrams
pub mod Spellings
pub mod Facts
pub mod StandardFacts
