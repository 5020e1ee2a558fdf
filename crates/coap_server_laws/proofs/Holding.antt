-- What paths hold: a body within the limit of the store (BodiesShort), one representation for one entity-tag (OneTag),
-- and what a 2.05 or a notification shows (Shown).
pub mod BodiesShort
pub mod OneTag
pub mod Shown
