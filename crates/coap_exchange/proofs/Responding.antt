pub mod GoesBack
pub mod OneResponse
pub mod RequestsCame
pub mod EmptyReplies
