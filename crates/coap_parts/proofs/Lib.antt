pub mod Retagged
pub mod TagsAreKept
