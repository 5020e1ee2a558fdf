pub mod Facts
pub mod NoEvent
pub mod PathWords
pub mod RunEnds
pub mod ScriptLines
pub mod ScriptWords
pub mod SettingLines
