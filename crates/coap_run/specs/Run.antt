-- The run of a list of events, and what it tells.
pub mod Senders
pub mod Ends
pub mod Configs
pub mod Acts
pub mod Inputs
pub mod Log
pub mod Telling
pub mod Lines
pub mod Happening
pub mod Sides
pub mod Lacking
pub mod Turning
pub mod Runs
