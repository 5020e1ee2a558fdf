-- Histories with their bytes: they stand in the law of a client, and their scenes are as computed.
pub mod Histories
pub mod HoldScenes
pub mod Scenes
