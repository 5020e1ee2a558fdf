pub mod HeaderAndToken
pub mod SoundBytes
pub mod ReadAsSpelled
pub mod ReadAgain
pub mod EveryDatagram
