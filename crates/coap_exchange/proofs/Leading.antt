pub mod ClientLeads
pub mod ServerLeads
