pub mod Loop
pub mod Programs
