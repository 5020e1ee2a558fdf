pub mod Notes
pub mod Opening
