-- What the crates above may cite: statements over the words of specs/ alone.
pub mod Keys
pub mod Laws
pub mod Parts
pub mod Sizes
