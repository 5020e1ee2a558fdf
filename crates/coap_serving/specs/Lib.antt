pub mod Kept
pub mod KeptWords
pub mod Printed
pub mod ScriptSettings
pub mod Served
pub mod SettingUp
pub mod ToldChanges
