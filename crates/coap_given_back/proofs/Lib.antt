pub mod Young
pub mod GivenBack
pub mod AtAnyTime
pub mod Witness
