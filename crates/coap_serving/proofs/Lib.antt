pub mod KeptCalls
pub mod ScriptCalls
pub mod ServedCalls
pub mod SettingUpCalls
