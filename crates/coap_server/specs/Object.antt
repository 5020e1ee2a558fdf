pub mod Checked
pub mod FullResponses
pub mod Handled
pub mod Registering
pub mod Shown
