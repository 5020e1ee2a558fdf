pub mod Asked
pub mod FirstRow
pub mod Leads
