-- The law of a server leaves each call one answer: the store makes one response, and one handling becomes of a request
-- and of an observer.
pub mod Exactly
pub mod OneHandling
pub mod StoreExactly
