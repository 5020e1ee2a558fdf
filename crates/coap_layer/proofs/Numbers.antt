-- Message IDs (RFC 7252, section 4.4).
pub mod EqualIdsAreApart
pub mod StepsOfASource
pub mod IdsAreSmall
pub mod OneEntryForAnId
pub mod HeldIsMany
