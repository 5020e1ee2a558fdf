-- What proofs of other crates cite: statements over the words of specs/ alone.
pub mod EveryDatagram
pub mod Spelling
