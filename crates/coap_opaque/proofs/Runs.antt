-- An end that is handed the same, with other endpoints in the place of theirs, does the same, with these in their
-- place.
pub mod ClientRuns
pub mod ClientInputs
pub mod ServerInputs
pub mod ServerRuns
