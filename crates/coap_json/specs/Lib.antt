pub mod LinkObjects
pub mod Objects
pub mod OtherObjects
pub mod ReportObjects
pub mod Written
