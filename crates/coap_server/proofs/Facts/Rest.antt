pub mod Ending
pub mod LayerAsked
