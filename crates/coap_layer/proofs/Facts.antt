-- What the crates above may cite: statements over the words of specs/ alone.
pub mod Arrivals
pub mod Calls
pub mod CallsOfLayer
pub mod HandedUp
pub mod Hops
pub mod IdsApart
pub mod Laws
pub mod Paced
pub mod AtAnyTime
pub mod FirstMoments
pub mod Sendable
pub mod Sendings
pub mod Spelling
pub mod StepsOfLayer
pub mod Taken
