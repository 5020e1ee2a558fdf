pub mod Answering
pub mod Ends
pub mod Printed
pub mod Shown
pub mod Statuses
