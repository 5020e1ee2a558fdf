mod Build
pub mod Channel
mod ClientChains
mod ClientMirror
mod ClientReports
mod ClientSteps
mod Example
pub mod Fresh
mod Givens
pub mod Handed
pub mod Lawful
mod OfRecords
mod Parts
pub mod Promised
pub mod MadeIsSent
pub mod ServerChains
pub mod ServerMirror
pub mod ServerSteps
pub mod Taken
mod TurnOfCall
mod Turns
mod SentIsMade
pub mod Waiting
