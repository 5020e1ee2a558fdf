pub mod RequestTaken
